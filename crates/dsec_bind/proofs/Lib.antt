pub mod DisplayLemmas
pub mod KeyLemmas
pub mod KeyWords
pub mod LineLemmas
pub mod PlainWords
pub mod ReadBack

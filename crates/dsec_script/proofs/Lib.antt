pub mod TextLemmas
pub mod ScriptLemmas
pub mod CallerLemmas

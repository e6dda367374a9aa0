pub mod NumberLemmas
pub mod Results
pub mod WordLemmas

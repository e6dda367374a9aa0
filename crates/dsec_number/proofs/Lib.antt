pub mod Results
pub mod RowLemmas
pub mod WordsBack

pub mod Written
pub mod Blocks
pub mod BlockViews
pub mod Inserting
pub mod OwnersOf
pub mod IterViews
pub mod Sets
pub mod SetViews

pub mod Cutting
pub mod Rewriting
pub mod Writing
pub mod Keeping
pub mod Views
pub mod Errors

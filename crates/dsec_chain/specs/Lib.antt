pub mod Walk
pub mod Views
pub mod Errors

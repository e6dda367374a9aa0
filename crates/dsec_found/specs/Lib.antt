pub mod Errors
pub mod Founds
pub mod Told
pub mod Tried
pub mod Outcomes
pub mod Begun
pub mod Letters

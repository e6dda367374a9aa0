pub mod Outcomes
pub mod Aliases

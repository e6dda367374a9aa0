pub mod SetMessages
pub mod Refusals

pub mod Errors
pub mod Building

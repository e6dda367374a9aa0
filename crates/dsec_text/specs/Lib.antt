pub mod Escapes
pub mod Tokens
pub mod Lines
pub mod Words
pub mod Finding

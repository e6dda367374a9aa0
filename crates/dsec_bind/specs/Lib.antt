pub mod Lines
pub mod KeyText
pub mod KeyDisplay

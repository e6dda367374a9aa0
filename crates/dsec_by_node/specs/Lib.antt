pub mod Answers
pub mod Grounds
pub mod WithNode

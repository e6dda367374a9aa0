pub mod States
pub mod Candidates
pub mod Following
pub mod Paths
pub mod SecurePaths

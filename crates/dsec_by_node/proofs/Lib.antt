pub mod DsLaws
pub mod GroundLaws
pub mod TellingLaws

pub mod Anchors
pub mod Texts

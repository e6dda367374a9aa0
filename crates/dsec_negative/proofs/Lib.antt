pub mod PlaceLaws
pub mod EvidenceLaws
pub mod ShownLaws
pub mod EncloserSteps
pub mod SearchLaws

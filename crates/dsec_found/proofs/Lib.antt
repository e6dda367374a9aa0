pub mod IslandSteps
pub mod TargetSteps
pub mod FoundSteps
pub mod JudgedLaws
pub mod SignerLaws
pub mod LetterLaws

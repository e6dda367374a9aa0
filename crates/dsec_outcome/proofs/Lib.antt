pub mod AnswerSteps
pub mod FindingSteps
pub mod ConclusionSteps
pub mod DenialSteps
pub mod UsedSteps
pub mod AliasSteps

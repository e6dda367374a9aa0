pub mod NextSteps
pub mod CandidateSteps
pub mod TurnSteps
pub mod WaySteps

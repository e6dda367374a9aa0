pub mod ReadSteps
pub mod WaySteps
pub mod GroupSteps
pub mod BeginLaws
pub mod BoundSteps
pub mod StepLaws
pub mod BoundedSteps
pub mod HandingSteps

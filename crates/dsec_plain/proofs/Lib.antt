pub mod TryingOnce
pub mod AnchorSteps
pub mod Completeness
pub mod Refusals
pub mod PlainLaws
pub mod PlainExample

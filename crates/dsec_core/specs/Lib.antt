pub mod Views
pub mod Validating
pub mod Progress
pub use Rattle.dsec_outcome.specs.Outcomes

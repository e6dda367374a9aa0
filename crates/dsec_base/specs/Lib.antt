pub use Rattle.dsec_cause.specs.Causes

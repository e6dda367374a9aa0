pub mod CountLaws
pub mod HoldingLaws
pub mod HeardLaws
pub mod MomentLaws
pub mod FindingLaws
pub mod ExactLaws

pub mod Views
pub mod UnderWay
pub mod Checks
pub mod Progress

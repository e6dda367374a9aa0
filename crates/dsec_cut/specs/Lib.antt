pub mod Ended
pub mod Cuts

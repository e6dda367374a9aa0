pub mod Trips
pub mod Progress
pub mod Calls
pub mod Checked
pub mod Sound
pub mod Turns

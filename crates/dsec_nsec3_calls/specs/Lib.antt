pub mod Views
pub mod Sources
pub mod Sightings
pub mod Looks
pub mod Walked
pub mod Tellings
pub mod Answers
pub mod Told

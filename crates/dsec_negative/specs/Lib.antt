pub mod Views
pub mod Sources
pub mod Told

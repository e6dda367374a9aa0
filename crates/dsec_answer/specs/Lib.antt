pub mod Told
pub mod Texts
pub mod Asked
pub mod Outcomes
pub mod Sending
pub mod Words
pub mod Headline

pub mod Replies
pub mod Ends
pub mod Turns
pub mod Ways

pub mod Owning
pub mod Denials
pub mod Evidence
pub mod Tests
pub mod Answers
pub mod Replies
pub mod Refusals

pub mod Replies
pub mod Limit
pub mod Faults
pub mod Hearing
pub mod Ends
pub mod Sending
pub mod Statuses

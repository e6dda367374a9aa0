pub mod JoinedWords
pub mod ItemWords
pub mod DataWords
pub mod NextEntry
pub mod Ipv6Text
pub mod AllEntries
pub mod EachReading

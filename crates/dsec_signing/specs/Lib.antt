pub mod Words
pub mod Zone
pub mod Refusals
pub mod Reading
pub mod Signed
pub mod Making
pub mod KeySets
pub mod Command

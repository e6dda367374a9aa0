pub mod Configs
pub mod KeptBounds
pub mod Views
pub mod KeyTags
pub mod Counting
pub mod Caches
pub mod Good

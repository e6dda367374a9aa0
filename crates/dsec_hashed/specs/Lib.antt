pub mod Config
pub mod HashedList
pub mod HashedTypes
pub mod HashedViews
pub mod Hashed
pub mod Nsec3Made
pub mod Refusals

pub mod Circle
pub mod Octets

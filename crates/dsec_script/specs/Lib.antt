pub mod Text
pub mod Line
pub mod Place
pub mod Script

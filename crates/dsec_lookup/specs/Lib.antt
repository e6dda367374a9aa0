pub mod Finding
pub mod Outside

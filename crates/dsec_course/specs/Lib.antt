pub mod Course
pub mod Advancing
pub mod Agreeing
pub mod Justified
pub mod Hearing
pub mod Ending

pub mod Worlds
pub mod Heard
pub mod Making
pub mod UnderWayLaws
pub mod CheckLaws

pub mod Digest
pub mod StandIn
pub mod Table
pub mod Row

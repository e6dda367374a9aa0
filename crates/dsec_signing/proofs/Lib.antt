pub mod ZoneReading
pub mod WordLemmas
pub mod RunLemmas
pub mod Adding
pub mod KeySets
pub mod MakingLemmas

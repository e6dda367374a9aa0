pub mod IslandSteps
pub mod AnchorLemmas
pub mod TextLemmas

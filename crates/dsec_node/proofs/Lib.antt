pub mod KeyData
pub mod KeyTagLaws
pub mod CacheLaws
pub mod NodeSteps
pub mod CountingLaws
pub mod CountedLaws
pub mod KeyPlaces

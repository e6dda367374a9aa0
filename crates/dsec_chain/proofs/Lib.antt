pub mod InsideWalk
pub mod InsideSteps
pub mod NsecData
pub mod Chained
pub mod SoaLaws
pub mod Placed

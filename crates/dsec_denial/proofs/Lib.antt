pub mod CallerLemmas
pub mod ExpansionLaws
pub mod ExpansionSteps
pub mod RangeLaws
pub mod DelegationLaws
pub mod SearchSteps
pub mod OwnerLaws
pub mod BearingSteps

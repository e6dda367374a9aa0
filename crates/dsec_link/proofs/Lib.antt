pub mod SetLemmas
pub mod NameParts
pub mod SignedTests
pub mod KeyedLemmas
pub mod KeyDigestLemmas
pub mod KeySearchSteps
pub mod SortedBy

pub mod CacheLaws
pub mod HashLaws

pub mod KeepingLaws
pub mod WritingLaws
pub mod RewritingLaws
pub mod CuttingLaws

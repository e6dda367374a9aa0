pub mod WholeLaws
pub mod WhereLaws
pub mod SectionLaws
pub mod AloneLaws
pub mod RunLaws
pub mod CutLaws

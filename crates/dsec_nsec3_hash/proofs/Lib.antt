pub mod CircleLaws
pub mod LabelLaws

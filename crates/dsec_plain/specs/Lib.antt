pub mod PlainAnswers
pub mod Coming

pub mod RefusalLaws
pub mod WholeLaws

pub mod BufferLaws
pub mod BlockLaws
pub mod OutcomeLaws

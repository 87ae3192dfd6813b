pub mod InStrands
pub mod Walk

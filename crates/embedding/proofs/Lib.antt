-- The laws, each after what it needs.
pub mod Answers
pub mod Splitting
mod Composition
pub mod Segment
pub mod Recurrence
pub mod Entries
pub mod Arc
pub mod Bounds
pub mod Rows
pub mod Computed
pub mod WindowLaws
pub mod Tightest
mod VerifyLaws
pub mod Spellings
pub mod Claims
mod Placing

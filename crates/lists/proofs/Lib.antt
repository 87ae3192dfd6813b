pub mod ListLaws
pub mod Ranges
pub mod Counts
pub mod Stretches

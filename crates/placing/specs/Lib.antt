pub mod Pairs
pub mod Placing

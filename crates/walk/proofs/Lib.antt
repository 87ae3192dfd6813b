mod Hairpins
pub mod Whole
mod WindowWalk

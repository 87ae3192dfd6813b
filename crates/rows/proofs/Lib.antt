pub mod Motifs
pub mod Pass
pub mod Parts
mod Passes
pub mod TableLaws

-- The definitions in reading order. Motif is for the screen program, Inner and Walk for the contracts inside this crate.
pub mod Content
pub mod Block
pub mod Motif
pub mod Examples
pub mod Statements
pub mod Inner
pub mod Walk

pub mod Arcs
pub mod Pairs

pub mod Arcs
pub mod BoundLaws
pub mod Made
pub mod Pairs

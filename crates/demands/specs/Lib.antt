pub mod Demands
pub mod Meets

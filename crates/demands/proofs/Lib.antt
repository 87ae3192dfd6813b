pub mod Demands
mod Ties

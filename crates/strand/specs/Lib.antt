-- The definitions in reading order. Lent is for contracts, Nesting and Levels are for those of inner functions.
pub mod Folds
pub mod Strands
pub mod Statements
pub mod Lent
pub mod Nesting
pub mod Levels

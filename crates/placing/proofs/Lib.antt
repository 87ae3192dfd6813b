pub mod Top
pub mod TakeLaws
pub mod Descent
pub mod Levels

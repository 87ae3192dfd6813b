pub mod Buffer
pub mod Steps

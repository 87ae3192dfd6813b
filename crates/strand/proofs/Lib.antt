mod NestingLaws
mod KeyLaws
mod CheckLaws
pub mod VerdictLaws
pub mod Spellings
pub mod FoldLaws
mod FoldWalk
pub mod LevelLaws
mod LevelWalk
pub mod Claims

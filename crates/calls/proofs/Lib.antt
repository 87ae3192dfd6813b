pub mod BlockUse
pub mod ReadingLaws
pub mod FactLaws
pub mod JudgeLaws
mod Accepting
mod Refusing
pub mod Claims
pub mod CallLaws
pub mod HoldingLaws
pub mod Stores
pub mod MotifLaws
pub mod BatchLaws
pub mod BatchRefusing
mod BatchSlots
pub mod BatchClaims

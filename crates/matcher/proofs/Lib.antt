mod CallLaws
pub mod Claims

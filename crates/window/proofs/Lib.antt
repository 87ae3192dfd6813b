mod SearchLaws
mod CarryLaws
mod AnswerLaws
pub mod Claims

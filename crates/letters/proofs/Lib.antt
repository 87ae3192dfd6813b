pub mod LetterLaws
pub mod Claims

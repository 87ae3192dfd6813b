pub mod WritingLaws
pub mod TextLaws
pub mod ScreenLaws
pub mod OutputLaws
pub mod Claims

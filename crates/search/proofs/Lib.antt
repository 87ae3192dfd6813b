pub mod MatchLaws
pub mod MarkLaws
pub mod ListingLaws
pub mod ScanLaws
pub mod KnownLaws
pub mod AnswerLaws

pub mod SumLaws
pub mod WalkLaws
mod SoundLaws
pub mod PartLaws
mod Altered
mod RoundTrip
mod EntryLaws
mod EncodedLaws
pub mod ContentLaws
mod EmptyMotif
pub mod Examples
pub mod Claims

mod StateLaws
mod Slots
pub mod Bytes
mod Verdicts
pub mod Follows
mod AddAgrees
mod RemoveAgrees
mod QueryAgrees
mod BatchAgrees
mod AlterFollows
mod SameLog
mod NotWhole
mod Right
mod Spellings
pub mod Runs
pub mod Theorem
pub mod HandedIn
mod BatchStory
pub mod Computed
pub mod Stories
pub mod Claims

pub mod FirstLaws
mod SoundLaws

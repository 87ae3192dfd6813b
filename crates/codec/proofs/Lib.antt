pub mod CodeLaws
mod WriteLaws
pub mod OutcomeLaws

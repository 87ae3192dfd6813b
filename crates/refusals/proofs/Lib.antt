pub mod RuleLaws
pub mod Refusing

mod Table
pub mod ByteLaws
pub mod BitLaws
pub mod MapLaws
mod SetLaws
pub mod ScanLaws
pub mod Examples

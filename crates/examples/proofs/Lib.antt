pub mod BlockRows
pub mod BufferRows
pub mod ScreenRow
pub mod BatchRows
pub mod Holds

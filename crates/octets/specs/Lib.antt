-- Bits is for the contracts inside this crate and for the laws of maps.
pub mod Octets
pub mod Examples
pub mod Bits

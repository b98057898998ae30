pub mod Claims
pub mod Bits
pub mod Refused
pub mod Examples

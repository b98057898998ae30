pub mod Codes
pub mod Claims
pub mod Settled

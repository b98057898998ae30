pub mod Claims
pub mod Stores
pub mod Taking
pub mod Merging
pub mod Telling
pub mod Settled

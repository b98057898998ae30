pub mod Stores
pub mod Takings
pub mod Merges
pub mod Counts
pub mod Text

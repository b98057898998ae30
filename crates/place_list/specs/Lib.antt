pub mod Codes
pub mod Search
pub mod Standing

pub mod Lines
pub mod Reasons

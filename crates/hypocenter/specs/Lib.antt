pub mod Hypocenter
pub mod Runs

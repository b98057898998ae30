pub mod Slots
pub mod Runs

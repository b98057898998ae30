pub mod EightBytes
pub mod Slots
pub mod Whole

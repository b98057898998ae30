pub mod Chunks
pub mod Divisions
pub mod ByteByByte
pub mod Whole

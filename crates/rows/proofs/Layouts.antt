pub mod Rows
pub mod Lengths
pub mod Fits
pub mod Flattened
pub mod Filling

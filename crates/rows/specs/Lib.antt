pub mod Refusals
pub mod Layout
pub mod Values
pub mod Kept
pub mod Faults
pub mod Found
pub mod Runs

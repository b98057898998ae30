pub mod KeptRules
pub mod NameRanges
pub mod Tested

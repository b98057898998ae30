pub mod Joins
pub mod MergingOutcomes

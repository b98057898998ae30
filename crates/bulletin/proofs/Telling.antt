pub mod TextOutcomes
pub mod PageBytes

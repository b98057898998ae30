pub mod Sound
pub mod Counted
pub mod OpeningOutcomes

pub mod TakingOutcomes
pub mod TakenOrRefused
pub mod HeldTexts

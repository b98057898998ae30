pub mod StoreAnswers
pub mod TakingSteps
pub mod TextSteps

pub mod Agree
pub mod Frames
pub mod Looks
pub mod ReadNumbers
pub mod ReadSteps
pub mod Used

pub mod Soundness
pub mod Frames
pub mod Histories
pub mod Reports
pub mod Refusals
pub mod Claims

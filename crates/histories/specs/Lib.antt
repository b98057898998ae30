pub mod Soundness
pub mod Frames
pub mod Merging
pub mod Histories
pub mod Reports
pub mod Reasons
pub mod Examples

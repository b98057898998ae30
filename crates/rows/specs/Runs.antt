pub mod Questions
pub mod Times
pub mod Verdict
pub mod Fields

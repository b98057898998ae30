pub mod Answers
pub mod Meanings

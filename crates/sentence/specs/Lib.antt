pub mod Sentences
pub mod Pieces
pub mod Reasons

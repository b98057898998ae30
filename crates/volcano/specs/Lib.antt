pub mod Volcano
pub mod Meaning

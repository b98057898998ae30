pub mod Tsunami
pub mod Meaning

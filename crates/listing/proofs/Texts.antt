pub mod Written
pub mod KeptBytes

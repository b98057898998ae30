pub mod Blank
pub mod Ends
pub mod Unused
pub mod Validity
pub mod WriteNumbers
pub mod WriteReasons
pub mod WriteSteps
pub mod Encoding

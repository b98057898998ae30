pub mod Rows
pub mod Listing
pub mod Scanning
pub mod Pieces

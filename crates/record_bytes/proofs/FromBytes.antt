pub mod Places
pub mod Read
pub mod Refused
pub mod Stray

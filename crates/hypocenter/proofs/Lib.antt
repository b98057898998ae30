pub mod Claims
pub mod Walks
pub mod Settled

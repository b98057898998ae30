pub mod Walks
pub mod Pushing
pub mod Settled

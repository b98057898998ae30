pub mod Chains
pub mod Decimals
pub mod Backwards
pub mod Wide
pub mod Settled

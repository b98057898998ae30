pub mod RoundTrip
pub mod Damage
pub mod Takings
pub mod Numbers
pub mod Claims

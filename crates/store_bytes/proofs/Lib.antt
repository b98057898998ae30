pub mod Claims
pub mod OnePage
pub mod Pages
pub mod RoundTrip
pub mod Settled

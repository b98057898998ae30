pub mod Claims
pub mod Entries
pub mod Found
pub mod Halves
pub mod Rules
pub mod Settled
pub mod Standings
pub mod Tests

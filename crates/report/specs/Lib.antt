pub mod Categories
pub mod Records
pub mod Meaning
pub mod Conforms
pub mod Reasons
pub mod Rules
pub mod Runs

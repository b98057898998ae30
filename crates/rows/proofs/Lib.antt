pub mod Rules
pub mod Layouts
pub mod Settled

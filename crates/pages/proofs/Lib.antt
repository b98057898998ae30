pub mod States
pub mod EqualNames
pub mod Shapes
pub mod Numbered
pub mod Ranges
pub mod Settled
pub mod KeptPages

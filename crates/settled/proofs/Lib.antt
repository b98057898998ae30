pub mod Arms
pub mod Law

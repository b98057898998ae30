pub mod Takings
pub mod Answers
pub mod PageStates
pub mod StoreStates
pub mod TextsBrought

pub mod PageFrames
pub mod Merges
pub mod FramesForAStore
pub mod StoresOfHistories

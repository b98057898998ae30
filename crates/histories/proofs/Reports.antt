pub mod Counts
pub mod Reported
pub mod Trimming
pub mod TextFromFrames
pub mod OnePageTwice
pub mod Complete

pub mod Claims
pub mod PaperExample
pub mod ValueExample
pub mod Texts
pub mod Lines
pub mod Chunks
pub mod Settled

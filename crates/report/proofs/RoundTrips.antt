pub mod OneToOne
pub mod ReadThenWritten
pub mod WrittenThenRead
pub mod Witnesses

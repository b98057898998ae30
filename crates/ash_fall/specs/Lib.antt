pub mod AshFall
pub mod Meaning

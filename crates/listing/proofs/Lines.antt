pub mod LineLoop
pub mod SeenRows
pub mod WrongLines

pub mod Pages
pub mod Names

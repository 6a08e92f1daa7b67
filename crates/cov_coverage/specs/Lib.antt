pub mod Names
pub mod Puts
pub mod Sections

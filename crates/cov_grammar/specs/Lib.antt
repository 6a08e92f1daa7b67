pub mod Expressions
pub mod Modules
pub mod Steps

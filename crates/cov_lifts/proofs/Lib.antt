pub mod States
pub mod Reached

pub mod States
pub mod Rests
pub mod Steps
pub mod OneValue
pub mod Models

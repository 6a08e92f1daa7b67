pub mod Digits
pub mod Fronts
pub mod Steps
pub mod Loops

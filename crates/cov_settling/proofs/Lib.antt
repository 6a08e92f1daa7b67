pub mod Kept
pub mod Closing
pub mod Again
pub mod AgainParts
pub mod Settling
pub mod Choosing
pub mod SettledModel
pub mod SettledFlat

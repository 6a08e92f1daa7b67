pub mod Scopes
pub mod Needs
pub mod Parts

pub mod Hulls
pub mod Joining
pub mod Narrow
pub mod Places
pub mod Steps
pub mod Widths

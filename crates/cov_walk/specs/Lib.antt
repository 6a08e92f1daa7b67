pub mod Closed
pub mod Found
pub mod Gathered
pub mod Misfits
pub mod Parts
pub mod Places
pub mod Wide
pub mod Widest

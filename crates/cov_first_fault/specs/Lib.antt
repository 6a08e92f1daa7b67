pub mod FirstFault
pub mod Stops

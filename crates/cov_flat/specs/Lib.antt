pub mod Reading
pub mod Parts
pub mod Entries
pub mod Doubles
pub mod Tables
pub mod Naming

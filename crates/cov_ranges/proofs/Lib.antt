pub mod Anywhere
pub mod Listed
pub mod Narrow
pub mod NoSets
pub mod Once
pub mod PartFaults
pub mod Places
pub mod Whole

pub mod Structures
pub mod Fixpoints
pub mod Operators

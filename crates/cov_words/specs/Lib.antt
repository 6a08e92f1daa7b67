pub mod Sorting
pub mod Words

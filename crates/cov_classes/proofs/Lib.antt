pub mod Listing
pub mod Counting
pub mod Parts
pub mod Firsts

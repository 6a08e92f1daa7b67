pub mod Prepared
pub mod Truths
pub mod Refuted
pub mod Turns

pub mod Answer
pub mod Parts
pub mod Tables
pub mod Reach

pub mod Points
pub mod Choices
pub mod Standing
pub mod Numbering
pub mod Made
pub mod Tables
pub mod Chunks
pub mod Steps

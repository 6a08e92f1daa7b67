pub mod Coverage
pub mod Faults
pub mod Jobs
pub mod Occurrences
pub mod Replays
pub mod Report
pub mod Specifications

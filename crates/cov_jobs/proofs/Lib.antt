pub mod HeadLemmas
pub mod SectionLemmas
pub mod StatesLemmas
pub mod Questions
pub mod Faults
pub mod Replaying

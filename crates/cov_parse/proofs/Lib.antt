pub mod Loops
pub mod MeaningLemmas
pub mod DepthLemmas
pub mod ProgramLemmas

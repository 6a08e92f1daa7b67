pub mod StepLemmas
pub mod ListSoundness
pub mod Soundness
pub mod ModuleSoundness
pub mod ModuleCompleteness
pub mod ListCompleteness
pub mod Completeness

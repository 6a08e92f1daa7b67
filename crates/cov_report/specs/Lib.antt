pub mod Lines
pub mod SpecLines
pub mod Verdicts

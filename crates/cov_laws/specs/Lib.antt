pub mod Lowering
pub mod Occurrences
pub mod Remainders
pub mod Signals
pub mod States
pub mod Trees
pub mod Verdicts

pub use Rattle.cov_dd.specs.Need
pub use Rattle.cov_dd.specs.Operations as Functions
pub mod Sets
pub mod Operations
pub mod Layers
pub mod Answers
pub mod Tasks
pub mod Views
pub mod Steps
pub mod Meters

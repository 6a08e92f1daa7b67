pub mod Naming
pub mod Unknown
pub mod Standing
pub mod Writing

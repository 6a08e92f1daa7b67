pub mod Failing
pub mod Room
pub mod Standing

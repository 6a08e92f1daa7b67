pub mod Systems
pub mod Rules
pub mod Standing
pub mod Pairs

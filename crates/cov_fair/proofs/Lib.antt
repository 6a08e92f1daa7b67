pub mod Pairs
pub mod Calls
pub mod Leading
pub mod Turning
pub mod Operating

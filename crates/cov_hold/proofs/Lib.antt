pub mod Rows
pub mod Lifting
pub mod Forms
pub mod Standing
pub mod Turning
pub mod Putting
pub mod Outside

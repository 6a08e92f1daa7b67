pub mod Binding
pub mod Declaring
pub mod Finding
pub mod Giving
pub mod Lists
pub mod Naming
pub mod Numbering
pub mod Stopping

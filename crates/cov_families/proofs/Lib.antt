pub mod Numbers
pub mod Gathering
pub mod Choosing
pub mod Combining

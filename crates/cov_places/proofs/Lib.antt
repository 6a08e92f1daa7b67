pub mod States
pub mod Numbers
pub mod Variables

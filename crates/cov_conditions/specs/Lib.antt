pub mod Asked
pub mod Bodies
pub mod Carried
pub mod Conditions
pub mod Fixed
pub mod Marks

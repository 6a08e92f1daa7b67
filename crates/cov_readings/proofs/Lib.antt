pub mod Bodies
pub mod Greatest
pub mod OneChoice
pub mod Placed
pub mod Readings
pub mod Single
pub mod WholeLists
pub mod Widths

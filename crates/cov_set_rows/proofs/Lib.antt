pub mod Flip
pub mod Rising

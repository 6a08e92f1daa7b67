pub mod Coming
pub mod Counted
pub mod Table
pub mod Touring

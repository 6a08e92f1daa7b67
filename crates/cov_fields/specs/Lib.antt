pub mod Fields
pub mod Sets
pub mod Laws
pub mod Steps

pub mod Sets
pub mod Structures
pub mod Labellings
pub mod Formulas
pub mod Lassos

pub mod Formulas
pub mod Over

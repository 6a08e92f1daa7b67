pub mod BinaryNodes
pub mod FormulaLaws
pub mod Occurring
pub mod Replacements
pub mod SizeLemmas

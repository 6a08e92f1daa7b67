pub mod ConstantAtoms
pub mod Kept
pub mod Lowering
pub mod NoOperators
pub mod OwnKinds
pub mod Shapes
pub mod SpecLists
pub mod WrittenSame

pub mod Cubes
pub mod Formulas
pub mod Printing
pub mod ReadAgain
pub mod States

pub mod Checking
pub mod Counting
pub mod Depths
pub mod Extents
pub mod Lists
pub mod Roots
pub mod Signals
pub mod ValueSets

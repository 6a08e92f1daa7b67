pub mod Cubes
pub mod Partition

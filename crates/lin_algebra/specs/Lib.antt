pub mod Vectors
pub mod Echelons
pub mod Matrices
pub mod Bases
pub mod Kernels

pub mod Graphs
pub mod Kernels
pub mod GraphVectors
pub mod Fronts

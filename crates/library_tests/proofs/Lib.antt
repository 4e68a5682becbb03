pub mod BasisRuns
pub mod SquareMatrices

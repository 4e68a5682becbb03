pub mod SmallEntries
pub mod SquareMatrices

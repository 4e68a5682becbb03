pub mod Common
pub mod Members
pub mod MatrixGroups
pub mod Sums
pub mod AverageLaws
pub mod AverageSteps

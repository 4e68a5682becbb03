pub mod PrimaryModules
pub mod Positions
pub mod UndividedMonomials
pub mod WiderTerms

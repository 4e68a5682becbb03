pub mod InvariantSpaces
pub mod Equations
pub mod Monomials
pub mod Images

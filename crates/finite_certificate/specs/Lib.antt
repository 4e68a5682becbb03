pub mod Ideals
pub mod MarkSpaces
pub mod StandardMonomials
pub mod Finiteness
pub mod Spreading

pub mod Algebras
pub mod Irreducibles
pub mod Words

pub mod Residues
pub mod ListedPrimes
pub mod PrimeFields

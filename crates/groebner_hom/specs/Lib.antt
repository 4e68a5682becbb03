pub mod IdealBases
pub mod Colons
pub mod Exponents
pub mod LeadPowers
pub mod Lifts

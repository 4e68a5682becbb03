pub mod Families
pub mod Actions
pub mod Groups
pub mod Insertions

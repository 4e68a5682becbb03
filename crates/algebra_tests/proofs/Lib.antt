pub mod SmallVectors
pub mod TestedForms

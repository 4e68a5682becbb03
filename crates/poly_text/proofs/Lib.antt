pub mod ScanSteps
pub mod Fronts
pub mod Steps
pub mod Endings
pub mod Completeness
pub mod Scans
pub mod TextBytes
pub mod FactorSteps
pub mod EntrySteps
pub mod TermSteps
pub mod DigitLaws
mod MonomialTexts
pub mod MonomialSteps
pub mod OutputLaws
pub mod PositionLaws
pub mod PositionParts
pub mod SpellingLaws
pub mod CombinationTerms
pub mod VariablePlaces
pub mod PrintedFactors
pub mod PrintedValues
pub mod PrintedLaws
mod CombinationFactors
pub mod CombinationReads
pub mod CombinationLaws
pub mod ReadLaws

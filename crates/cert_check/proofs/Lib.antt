pub mod AveragesGenerate
pub mod HoldsParts
pub mod HoldsComplete
pub mod HoldsProperties
pub mod MadePlaces
pub mod MadeForms
pub mod MadeLifts
pub mod MadePowers
pub mod MadeHolds
pub mod MadeLists
pub mod MadeLines
pub mod MadeOnce
pub mod WorkSteps
pub mod GivenParts
mod CombinationSums
mod CombinationSteps
pub mod FirstFailing
mod SameFronts
mod MonomialForms
mod AverageTests
mod EvidenceGiven
mod AverageItems
mod EvidenceParts
mod KernelMembers
mod KernelTests
mod KernelItems
pub mod RisingLists
pub mod EndsOnce
pub mod CheckSpaces
pub mod CheckedPrimaries
pub mod CheckedPowers
pub mod CheckedLifts
pub mod PowersInIdeal
pub mod CheckedRank
mod EvidenceSteps
pub mod CheckedGroup
pub mod CheckedForms
pub mod CheckedTerms
pub mod CheckedLast
pub mod Items
pub mod WordItems
pub mod CheckedWords
pub mod CheckedWalk
pub mod InvariantForms
mod LiftTests

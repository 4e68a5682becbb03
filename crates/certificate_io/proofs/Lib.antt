pub mod LineLaws
pub mod CertificateLines
pub mod Splits
pub mod LineWords
pub mod DigitSteps
pub mod WordSteps
pub mod PairSteps
pub mod LineTails
pub mod CellSteps
pub mod Completions
pub mod Shapes
mod ReadingRuns
mod PolynomialReadings
mod PartReadings
mod WordRuns
mod ClassRuns
mod SectionRuns
mod DegreeSteps
mod SpaceReadings
mod FaultChains
mod ReadAnswers
pub mod LineTrees
pub mod CertificateTrees
mod TextSections
mod SectionFaults
mod TextFaults
mod PartsShaped
mod TextSpaces
mod PartsOfLines
mod PrintedTrees
mod ClassCells
mod PrintedSections
pub mod PrintedParts
pub mod CertificateParts
mod CertificateReads
mod SectionsRead
mod CertificateMade
mod TextAnswers

pub mod AcceptedFiles
mod AlwaysOneVerdict
pub mod DefinitionsOfTrees
mod EarlyRefusals
mod EarlyVerdicts
mod FaultlessTables
mod FaultsInPlace
pub mod FileSizes
mod FilesRead
pub mod FindingsInARow
mod HierarchiesFound
mod LexicalFaults
mod MeantTables
mod OneOrder
mod OneStanding
pub mod OneVerdict
pub mod OrderOfFaults
mod PlacedFaultLists
mod PlacesOfTrees
mod RisingFaults
mod RowsOfFiles
mod ShownTexts
mod SlicesParsed
mod SortedFaults
pub mod SyntaxFaults
mod TablesFit
pub mod VerdictsOfPhases

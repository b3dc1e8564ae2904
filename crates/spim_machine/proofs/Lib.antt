mod TakingBytes
mod ReadingNumbers
mod SameResults
mod ReadingCalls
mod FillingBuffers
mod KeepingParts
mod ReadingStrings
mod PiecesOfBytes
mod PartsOfMachines
mod Printing
mod SignedDecimals
mod MovingBreak
mod CallsByNumber
mod Cycles
pub mod RunsGoOn
mod RunsByCycles
mod AdvancesAreRuns
pub mod CountsOfRuns
mod RunsUpToBreaks
pub mod RunsWithoutBreaks
mod PutsOfRuns
mod PutsAreOutput
pub mod StoppedRuns
pub mod LoadedRuns

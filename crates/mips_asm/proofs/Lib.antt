mod SmallUnits
mod LabelTables
mod LoopRests
pub mod FirstPasses
pub mod LinePlaces
mod PlacesOfMarks
mod LinesLeft
mod Completions
pub mod Targets
mod ItemsLeft
pub mod Assembled
pub mod AllAssembled
pub mod WordsOfText
mod LabelsOfText

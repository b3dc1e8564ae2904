-- Lemmas on loading a program: the text and data of the machine that is loaded with its image, and the state in which this machine starts.
pub mod ConstantsAmong
pub mod Loaded
pub mod LoadedConstants
pub mod LoadedImages
pub mod LoadedItems
pub mod LoadedSpans
pub mod LoadedStrings
pub mod LoadedTables
pub mod LoadedText
pub mod MarkedTexts
pub mod PartsOfLines
pub mod PartsOfMarks
pub mod QuietFeatures
pub mod QuietPrograms
pub mod SettledFeatures
pub mod StartState
pub mod WatchedImages

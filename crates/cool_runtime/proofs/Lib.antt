pub mod AddedLines
pub mod Runs
pub mod Walking
pub mod Words
pub mod Strings
mod Printing
pub mod Allocating
pub mod Objects
pub mod Pieces
mod Reading
pub mod Copying
pub mod CopiedObjects
mod Building
pub mod MadeStrings
mod Joining
pub mod JoinedStrings
pub mod PlacesOfLabels
pub mod LinesOfImages
pub mod DataOfImages
pub mod LinesOfInput
pub mod ReadingStrings
pub mod Cutting
mod Errors
mod Comparing
pub mod Calling
mod Measuring
pub mod MeaningsMet
pub mod Starting
mod Naming

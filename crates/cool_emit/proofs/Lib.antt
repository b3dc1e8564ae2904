mod LabelsSeenOnce
pub mod RoomOfLines
pub mod SoundLinesAssemble
pub mod RootedTables
mod Totals
mod ClassesInTurn
mod ConstantsAsked
mod RoomOfPieces
mod RoomOfText
mod StringsOnce
mod SlotsInLimits
mod TotalsByTag
mod RoomOfData
pub mod LabelsOfParts
mod LabelsOfRoutines
pub mod LabelsThere
mod ConstantsThere
pub mod FixedNamesThere
pub mod ConstantsInRange
mod DataOfPrograms
mod TextOfPieces
mod TextOfParts
pub mod TextOfCode
mod TextOfFeatures
mod TextOfRoutines
mod NamesMeant
mod LowNumbers
pub mod TextOfPrograms
mod AddingParts
pub mod CountedNames
pub mod NamesApart
pub mod LabelsOfCode
pub mod NamesOfClasses
mod MethodsInPlace
mod LabelsOfFeatures
mod LabelsOfClasses
mod RoutineLabelsApart
mod LabelsOfData
mod LabelsAreDifferent
pub mod ProgramsAreSound
mod PartsAreLight
mod ConstantsAgain
mod SectionsInTurn
mod BatchesInTurn
mod PassesEnd
pub mod SpansOfPrograms
mod KindsInAll
mod TellingParts
mod PartsOfLines
mod SpansByAddress
mod RowsStanding
pub mod RowsOfSpans
mod RoomOfTables
mod FeaturesTold
mod ScopesOfRows
mod ClassesTold

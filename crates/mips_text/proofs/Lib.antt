pub mod CappedNumbers
mod CutTexts
mod FirstLetters
mod FrontsAreLongest
mod KindsOfReading
mod LabelsOfLines
mod LinesOfTexts
mod Longest
mod LongestNumbers
mod LongestStrings
mod LongestWords
mod LongestWordsAreThere
mod MissingOperands
mod NamedMnemonics
pub mod OneReading
mod Prefixes
mod PrintedInstructions
pub mod PrintedLines
mod PrintedParts
mod ReadLines
mod ReadLinesArePrintable
mod ReadingTables
mod SpelledNumbers
mod SpelledRegisters
mod SpelledRows
mod SpelledStrings
mod SpelledWords
mod SpellingRows
mod StatementsInRange
mod WordsBehind

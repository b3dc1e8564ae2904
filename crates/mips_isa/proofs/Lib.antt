mod JoiningFields
pub mod WordsAreDecoded
pub mod DecodedIsItsWord
mod DecodingWords
pub mod RunsInParts
pub mod OutputGrows
pub mod InputShrinks

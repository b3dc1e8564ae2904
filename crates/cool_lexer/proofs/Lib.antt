mod Digits
mod Keywords
mod NestingComments
mod Words
mod Prefixes
mod ClosedComments
mod StringConstants
mod FrontsAreItems
mod Items
pub mod ItemsInARow
mod ReadSoFar
pub mod LexemesKeepLimits
pub mod WeightsOfTokens
pub mod OneReading
pub mod AlwaysOneReading
mod Blanks

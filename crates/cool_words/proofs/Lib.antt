mod FoundValues
mod NoNumbers
mod ParsedWords
pub mod FileNames

mod StoringBytes
mod MakingBytes
mod LoadingBytes
mod LoadsAnswer
mod StringsOfBytes
pub mod DecodedInRange
mod GrowingStacks

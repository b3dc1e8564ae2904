pub mod ShortChains
pub mod Counting
mod Families
pub mod TagRanges
mod Children
mod Walking
mod LastTags
mod TagsNoted
pub mod AttributePlaces
mod BasicMethods
mod KeptOffsets
pub mod SlotNames
mod TablesGrow
mod FindingSlots
mod TablesStart
mod TablesInOrder
pub mod KeptSlots
mod ClassesByTag
pub mod BasicNames
pub mod MethodsThere
mod AttributesThere
mod AttributesCounted

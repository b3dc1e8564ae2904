pub mod NoticesInOrder
pub mod ValuesOfParts

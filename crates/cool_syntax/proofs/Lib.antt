pub mod ComparingLists
pub mod ComparingShortNames
pub mod ParsedTreesAreWritable
pub mod PartsStandBefore
pub mod TreesAtNumbers
pub mod TreesHaveNodes
pub mod TreesOfLists

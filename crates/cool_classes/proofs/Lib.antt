pub mod AlikeTables
pub mod AlikeTablesKept
pub mod AllOfLists
pub mod AttributesOfChains
pub mod BasicDepths
pub mod BasicLimits
mod BasicNames
pub mod ChainsOfTables
pub mod ClassesNamed
pub mod Climbs
pub mod CyclesCaught
mod DistinctNames
mod EntriesInOrder
pub mod ExactFaults
pub mod FaultPlaces
pub mod Faultless
mod FaultsAdded
mod FaultsInOrder
mod FaultsJoined
mod FaultsLeft
mod FeatureRowsExact
pub mod FeaturesChecked
pub mod FirstIndexes
mod GroundedByDepths
pub mod LawfulByFaults
mod Lineages
mod MainMethods
pub mod Methods
mod MethodsNamed
mod NameIndexes
mod NamesOfDefinitions
pub mod NamesOfFeatures
mod NewMethods
mod OwnNamesGrow
pub mod ParentsOfDefinitions
pub mod PassingDefinitions
pub mod Resolving
pub mod RowsExact
mod SameMembers
mod SameTypes
mod Seen
pub mod Signatures
pub mod SwappedBodies
pub mod WalksFind

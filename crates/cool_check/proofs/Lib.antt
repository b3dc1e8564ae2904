pub mod AcceptedTables
mod CheckedDecides
mod ColumnsOfFeatures
mod ColumnsOfParts
mod FaultsInOrder
mod FeaturesDecide
mod Misfits
mod OneType
pub mod OrderOfKinds
mod PartsLeft
mod PlacedFaults
pub mod PlacesOfParts
mod RulesThatFail
mod TypesGiven
mod TypesInScope

mod ExtentsFound
mod ExtentsMade
mod ExtentsOfNodes
mod FindingNodes
pub mod LengthsFound
mod ParenthesesAround
mod SearchingByHalves
mod TokensAtPlaces

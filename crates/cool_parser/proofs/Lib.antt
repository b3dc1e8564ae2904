pub mod BoundedFeatures
mod ConcreteMachine
pub mod FilesWithinLimits
mod GoodNodes
mod GoodStates
mod ParsingAFile
mod NodesOfConcreteTrees
mod OperatorsThatEnd
mod ParsedTreesAreShaped
pub mod ParsingIsTheGrammar
mod PlacingANode
mod PrefixesOfFiles
mod ReadingConcreteTrees
mod RoomForNodes
mod RunsOfFeatures
mod StepsOverConcreteTrees
mod TextsOfNodes
mod TreesOfNodesWithin
pub mod WeightsOfFiles
mod WeightsOfNodes

mod NoMoreMeters
mod Rows
mod FoldedCalls
mod OnlyMethods
mod FoldedDispatches
mod FoldedExpressions
mod FoldedTypes
mod SameShapes
pub mod FoldedTables
mod TypesInScope
mod FoldedRuns
pub mod FoldedPrograms
mod NothingLeft
mod FoldedFeatures
mod TypesOfShapes
mod TypingOfShapes
pub mod FoldedTableIsTyped
mod FoldedSizes
mod FoldedWithin
mod FoldedTableFits
mod ShrinkingFolds
mod ClassesAbove
mod NodesPlaced
mod FoldedRows
mod FoldedConditionals
mod PartsPlaced
mod FoldedForms
mod FoldedWholes
mod FoldedBodies
mod DefinersGrow
mod ExpressionsLeft
mod ReplacedExpressions
mod PartsOfForms
mod ShrunkTypes
mod FoldedColumns
mod TypesPlaced
mod StandingNodes
mod PartsFolded

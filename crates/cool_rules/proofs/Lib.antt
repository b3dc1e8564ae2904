pub mod ChainsOfTables
pub mod ClassesAmong
mod ColumnsAreTyped
mod ColumnsHeld
pub mod ColumnsLeft
pub mod EnteredScopes
pub mod LengthsOfTypes
pub mod NamesOfTables
pub mod PartsStand
pub mod RulesDecided
pub mod RulesOfTables
pub mod SameScopes
mod ScopesInOrder
pub mod ScopesMoved
pub mod StaticTypesAreGiven
pub mod TypesAreTypes
pub mod TypesOfMethods

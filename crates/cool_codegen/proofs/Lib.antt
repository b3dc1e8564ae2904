pub mod AttributesOfClasses
mod WholeBodies
mod OperationsAsk
pub mod VariablesHave
mod CodeByNumbers
mod ConstantsKept
pub mod NumbersAgree
mod ScopesOfFeatures
pub mod ArmsInOrder
mod SpansNoted
mod SpansByNumbers
mod LinesAlone
pub mod FeaturesThere
mod NumbersStay
mod SameSettings
pub mod SpansOfCode
pub mod SpansStand
pub mod MovedSpans
pub mod LinesInAll
pub mod SpansOfTables

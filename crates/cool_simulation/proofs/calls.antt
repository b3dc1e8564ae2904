-- Proofs that the code of methods and of initializers simulates the calls of the semantics: stack frames, addresses of parameters and attributes, bodies, and
-- an induction on the number of steps.
pub mod AllCalls
pub mod AttributesAtHome
pub mod BasicAttributes
pub mod BodyScenes
pub mod Entries
pub mod FeaturesHere
pub mod Formals
pub mod Frames
pub mod InitialParts
pub mod InitialValues
pub mod Initializers
pub mod InitialsSplit
pub mod InsideFrames
pub mod LeftFrames
pub mod Methods

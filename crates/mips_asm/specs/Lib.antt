pub mod Passes
pub mod Parts
pub mod Places
pub mod FirstPasses
pub mod SecondPasses
pub mod Completing
pub mod TextWords
pub mod TextLabels

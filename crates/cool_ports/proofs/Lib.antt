pub mod AskedNames
pub mod FilesHeld
pub mod GettingBytes
pub mod GivingBytes
pub mod InputsInParts
pub mod PuttingPieces
pub mod SeenSinks

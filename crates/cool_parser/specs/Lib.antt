pub mod Answers
pub mod Endings
pub mod Laws
pub mod Levels
pub mod ParsingMachine
pub mod Waiting

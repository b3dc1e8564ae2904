-- The postconditions of the commands of `cool`, one file for each command.
pub mod Usage
pub mod Check
pub mod Build
pub mod Run
pub mod Eval
pub mod Exec
pub mod Big
pub mod Debug
pub mod Session

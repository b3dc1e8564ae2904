-- Lemmas on each command of `cool`, one file for each command; no file depends on the file of another command.
pub mod Checks
pub mod Evaluations
pub mod Builds
pub mod Runnings
pub mod Executions
pub mod Bigs
pub mod Debuggings
pub mod Sessions

pub mod CommandLine
pub mod Devices
pub mod Ends
pub mod Notes
pub mod Reading
pub mod Statuses
pub mod Tasks

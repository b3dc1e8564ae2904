pub mod Input
pub mod Numbers
pub mod MachineStates
pub mod Ends
pub mod Counting
pub mod Puts

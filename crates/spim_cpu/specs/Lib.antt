pub mod Advancing
pub mod Cpu

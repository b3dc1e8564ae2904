pub mod Memory
pub mod Operations
pub mod Places
pub mod Strings
pub mod Zeros

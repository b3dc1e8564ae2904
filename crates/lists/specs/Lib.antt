pub mod Bytes
pub mod Different
pub mod Prefixes
pub mod Words

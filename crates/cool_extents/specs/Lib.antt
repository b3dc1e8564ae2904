pub mod Extents
pub mod FoundExtents

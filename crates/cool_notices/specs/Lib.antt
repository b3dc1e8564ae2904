pub mod Notices
pub mod ValuePlaces
pub mod ValuesLeft

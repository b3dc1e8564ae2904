pub mod Beginnings
pub mod Views
pub mod Fronts
pub mod Readings
pub mod Errors
pub mod Laws
pub mod ItemSizes

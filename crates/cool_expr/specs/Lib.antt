pub mod Falls
pub mod Groups
pub mod View

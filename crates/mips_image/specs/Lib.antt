pub mod ImageBytes
pub mod ImageReading

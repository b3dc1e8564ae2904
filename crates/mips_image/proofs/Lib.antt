pub mod ReadingParts
pub mod ImagesAreRead
pub mod ReadingIsImage
mod ReadingImages

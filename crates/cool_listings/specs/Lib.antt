pub mod Ends
pub mod EachFile
pub mod Lines
pub mod NodeTexts
pub mod TokenLines
pub mod TreeLines
pub mod Columns
pub mod Processes

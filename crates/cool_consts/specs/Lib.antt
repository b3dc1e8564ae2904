pub mod Constants
pub mod Labels
pub mod LinesOfConstants

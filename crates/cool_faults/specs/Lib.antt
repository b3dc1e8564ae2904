pub mod Files
pub mod Laws
pub mod Phases
pub mod Shown
pub mod Texts
pub mod Untyped
pub mod Verdicts

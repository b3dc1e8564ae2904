mod ground
mod forms
mod calls
mod loading
mod shown
pub mod theorem

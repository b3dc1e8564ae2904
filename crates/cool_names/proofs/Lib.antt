pub mod NamesMarked
mod PartsLeft
mod ProgramUsesTold
mod FoundVariables
mod SeenTypes
mod UsesTold

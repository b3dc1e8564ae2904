mod FreshDevices
pub mod FilesRead
mod OutcomesDue
mod OutcomesWritten

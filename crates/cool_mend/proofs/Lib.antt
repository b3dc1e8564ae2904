pub mod FilesEdited
pub mod PartsOfLists
pub mod MendsTold
pub mod FaultsPassed
pub mod NoticesTold
pub mod MethodsTold
pub mod EditsMade
pub mod NewFaults

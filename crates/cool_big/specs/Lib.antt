pub mod BigPrograms

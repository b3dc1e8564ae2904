pub mod Hints
pub mod Lexemes
pub mod Words

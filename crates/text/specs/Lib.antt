pub mod Classes
pub mod Laws
pub mod Lexemes
pub mod Lexings
pub mod Spellings
pub mod Steps
pub mod Tokens

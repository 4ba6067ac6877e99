pub mod Faults
pub mod TokenClasses
pub mod Streams
pub mod Grammars
pub mod Firsts
pub mod Parsers
pub mod Viable

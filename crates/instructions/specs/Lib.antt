pub mod Blocks
pub mod Simple

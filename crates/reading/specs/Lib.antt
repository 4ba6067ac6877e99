pub mod Nests
pub mod Sizes
pub mod States
pub mod Steps

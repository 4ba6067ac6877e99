pub mod Lines
pub mod Screens

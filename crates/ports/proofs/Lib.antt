pub mod Fronts
pub mod Magnitudes
pub mod Numerals
pub mod Pieces
pub mod Puts
pub mod Ranges
pub mod Readback
pub mod Writes

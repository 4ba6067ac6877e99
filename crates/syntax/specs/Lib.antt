pub mod Laws
pub mod Nodes
pub mod Readings
pub mod Syntax

pub mod Faults
pub mod Held
pub mod Laws
pub mod Searches
pub mod Sets
pub mod Shapes
pub mod Slots

pub mod Ends
pub mod Inserting
pub mod Members
pub mod Ordering
pub mod Places
pub mod Removing
pub mod Slots

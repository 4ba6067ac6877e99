pub mod Faults
pub mod Fences
pub mod Lists
pub mod Meanings
pub mod Spellings
pub mod Texts
pub mod Words

pub mod CaseFiles
pub mod Listings

pub mod Exact
pub mod ProgramViable
pub mod Telling
pub mod Worked

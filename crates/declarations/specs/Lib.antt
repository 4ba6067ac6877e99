pub mod Parameters
pub mod Variables

pub mod Marks
pub mod Children
pub mod Systematic
pub mod Calls
pub mod Examples

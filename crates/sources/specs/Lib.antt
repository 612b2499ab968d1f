pub mod Supplies
pub mod Generators
pub mod Rows
pub mod Recordings
pub mod Examples
pub mod Steps
pub mod RowsLemmas

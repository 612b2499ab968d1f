pub mod Stepping
pub mod States

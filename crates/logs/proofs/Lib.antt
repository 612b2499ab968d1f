pub mod Running
pub mod Forming
pub mod Reasoning
pub mod Reading

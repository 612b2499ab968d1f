pub mod Faults
pub mod Inputs
pub mod Answers
pub mod Outcomes
pub mod Written

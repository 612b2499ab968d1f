pub mod Faults
pub mod Lines
pub mod Reports
pub mod Runs
pub mod Forms
pub mod Reasons

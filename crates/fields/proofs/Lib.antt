pub mod Cutting
pub mod Digits
pub mod Exact
pub mod Joining
pub mod Listing

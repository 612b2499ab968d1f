pub mod Owners
pub mod Shares
pub mod Tallies
pub mod Replies

pub mod Rows
pub mod Replies
pub mod Carts
pub mod Steps

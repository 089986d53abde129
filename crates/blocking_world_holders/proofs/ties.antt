pub mod Holders
pub mod Tasks
pub mod Wakes

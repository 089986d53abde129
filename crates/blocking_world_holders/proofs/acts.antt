pub mod Calls
pub mod TaskActs
pub mod JobActs
pub mod Steps

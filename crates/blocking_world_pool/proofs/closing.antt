pub mod Hands
pub mod Jobs

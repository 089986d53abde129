pub mod Changes
pub mod Jobs
pub mod Hands
pub mod Moves

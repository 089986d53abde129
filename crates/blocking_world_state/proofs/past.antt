pub mod Drops
pub mod Standings
pub mod Holders
pub mod LeftJobs
pub mod Marks
pub mod ParkedJobs

pub mod Lookups
pub mod Marks
pub mod Tickets
pub mod Changes

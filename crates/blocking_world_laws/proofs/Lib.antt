pub mod Beginnings
pub mod Clients
pub mod Counted
pub mod Filters
pub mod Queues
pub mod Times
pub mod WrittenBytes

pub mod Errors
pub mod FromKit
pub mod Reading
pub mod Writing

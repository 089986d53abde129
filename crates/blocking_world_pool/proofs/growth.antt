pub mod Reads
pub mod Calls
pub mod Sweeps

pub mod Copies
pub mod CopyFaults
pub mod CopySteps
pub mod Passed
pub mod Polled

pub mod JobSteps
pub mod Wholes

mod Carrying
mod Copied
mod Copies
mod CopyBytes
mod Futures
pub mod Passes
pub mod Wholes

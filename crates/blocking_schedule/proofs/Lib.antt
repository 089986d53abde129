pub mod Numbers
pub mod Moves
pub mod Callers
pub mod Workers
pub mod Lookout
pub mod Bells
pub mod Sequences
pub mod InWords

pub mod Types
pub mod Words
pub mod Clashes
pub mod cuts
pub mod acts
pub mod ties
pub mod owners

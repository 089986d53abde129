pub mod Types
pub mod Words
pub mod moves
pub mod past
pub mod rows
pub mod ties
pub mod laws

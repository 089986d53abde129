pub mod Rows
pub mod Parts
pub mod Moves
pub mod Carried
pub mod Ties

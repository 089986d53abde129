pub mod Tickets
pub mod Crews
pub mod Moves
pub mod Closing
pub mod HandLends
pub mod Ties

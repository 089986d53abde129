pub mod NextActions
pub mod Actions
pub mod OwnActs
pub mod Steps
pub mod Wakes
pub mod OwnerWakes
pub mod Legality

pub mod Acts
pub mod Events
pub mod TimelyCalls

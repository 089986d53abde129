pub mod Calls
pub mod Lasting
pub mod Sections
pub mod SlotAnswers
pub mod Stages

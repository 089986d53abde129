pub mod Answers
pub mod Counted
pub mod Rings
pub mod Rules
pub mod Sections

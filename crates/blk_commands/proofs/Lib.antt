pub mod ByteLemmas
pub mod Numbers
pub mod OutcomeLemmas
pub mod PlayLemmas
pub mod ScriptLemmas
pub mod TellLemmas
pub mod WordCounts

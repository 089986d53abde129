pub mod Words
pub mod Headline
pub mod Alone
pub mod Independence
pub mod CopierTraces

pub mod Flat
pub mod Lending
pub mod Stores

pub mod Copiers
pub mod Assemblies
pub mod Ties

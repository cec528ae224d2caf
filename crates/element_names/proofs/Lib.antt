pub mod Bindings
pub mod TableIndexing
pub mod Ranking
mod NamedElements
mod NameKeys
mod Differing
mod QualifiedParts
mod Lists

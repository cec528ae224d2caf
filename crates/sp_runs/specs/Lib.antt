pub mod Headline
pub mod Laws
pub mod Runs

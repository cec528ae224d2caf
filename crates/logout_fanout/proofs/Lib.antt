pub mod Rounds
pub mod Plans

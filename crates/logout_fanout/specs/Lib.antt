pub mod Plan
pub mod Round
pub mod Examples

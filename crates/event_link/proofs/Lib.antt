pub mod ClockLaws
pub mod LinkLaws

pub mod Covered
mod Examples
pub mod OneFault
pub mod Outcomes
pub mod Picking
pub mod Reading
pub mod Shown
pub mod Skipping

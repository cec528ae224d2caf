pub mod Completing
pub mod Ending
pub mod Moments
pub mod Serving
pub mod Kept
pub mod Joining
pub mod Setups
pub mod Headlines

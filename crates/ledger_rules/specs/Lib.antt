pub mod Numbers
pub mod Kept
pub mod RowPlaces
pub mod Texts
pub mod Moments
pub mod Order
pub mod Examples

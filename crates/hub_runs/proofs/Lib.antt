pub mod Asking
pub mod Back
pub mod Headlines
pub mod Kept
pub mod Origins
pub mod Starving

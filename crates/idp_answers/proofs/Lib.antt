pub mod Held
mod Pages
pub mod ReadBack
pub mod Responses
pub mod Signable
pub mod SignedElements
pub mod Texts
pub mod MayStand

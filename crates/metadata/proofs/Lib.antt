pub mod PeerTexts
pub mod Texts
pub mod Reading
pub mod Refusals
mod Examples

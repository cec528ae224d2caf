pub mod Attributes
mod Examples
pub mod Finding
pub mod LastNodes
mod NamesLeft
pub mod Placed
pub mod Places
pub mod TextBelow
pub mod Trimming
pub mod Walking
pub mod WritableTexts

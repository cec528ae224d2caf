pub mod Form
pub mod Html
pub mod Laws
pub mod Occurrences
pub mod Pages

pub mod Examples
pub mod Lines
pub mod Numbers
pub mod Views
pub mod Words

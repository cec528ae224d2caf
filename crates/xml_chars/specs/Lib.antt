mod Examples
pub mod AsciiTexts
pub mod Reading
pub mod Signs

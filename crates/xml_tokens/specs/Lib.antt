pub mod Heads
pub mod Lexing
pub mod Markup
pub mod Views
pub mod Decoded
pub mod Texts
pub mod Names

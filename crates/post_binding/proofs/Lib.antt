mod Appending
mod Base64
mod Escaped
mod Escaping
mod Examples
mod Markup
mod Posting
pub mod Faults
pub mod Noted
pub mod Plain

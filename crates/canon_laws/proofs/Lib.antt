pub mod Attributes
pub mod Bindings
pub mod Bytes
pub mod Contents
pub mod Cuts
pub mod Distinct
pub mod Equal
pub mod Escapes
mod ContentExamples
mod Examples
pub mod Keeping
pub mod Fit
pub mod FormNames
pub mod Kept
pub mod Lines
pub mod Named
pub mod Scopes
pub mod Sorted
pub mod Spelled
pub mod Spelling
pub mod Tests
pub mod Texts
pub mod Tokens
pub mod Values
pub mod Written

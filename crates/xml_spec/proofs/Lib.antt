pub mod Classes
pub mod Declared
pub mod Documents
pub mod Ends
mod Examples
pub mod Heads
pub mod NameBytes
mod NameExamples
pub mod Orders
pub mod References
pub mod Runs
pub mod Sequences
pub mod Sorting
pub mod Tags
pub mod Tests
pub mod Tokens
pub mod Trees
pub mod Valid
pub mod Values

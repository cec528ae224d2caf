pub mod Lining
pub mod Numbering
pub mod Numerals
pub mod OneByOne
pub mod Saying
pub mod Texts

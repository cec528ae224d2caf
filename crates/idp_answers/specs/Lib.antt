pub mod Stating
pub mod Answers
pub mod SignedElements

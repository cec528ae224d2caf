pub mod Names
pub mod IdText
pub mod Laws
pub mod IdExamples

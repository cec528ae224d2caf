pub mod Levels
pub mod LevelExamples
pub mod Index
pub mod Marks
pub mod Laws

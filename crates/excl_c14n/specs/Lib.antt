pub mod Texts
pub mod Levels
pub mod Pairs
pub mod Tables
pub mod Shown
pub mod NodeByNode

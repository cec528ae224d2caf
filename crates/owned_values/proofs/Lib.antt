pub mod GivesLaws
pub mod Utf8

pub mod Words
pub mod RowLaws
pub mod Linking
pub mod KeptRecords
pub mod AsSp
pub mod Runs
pub mod KeptAnswers
pub mod Draftable
pub mod Places
pub mod Drafted
mod Backing

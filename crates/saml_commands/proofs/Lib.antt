mod Passed
mod Replaying
pub mod Alone
pub mod Answering
pub mod Checking
pub mod Completeness
mod Completing
mod RecordAnswers
pub mod Roles
pub mod Serving

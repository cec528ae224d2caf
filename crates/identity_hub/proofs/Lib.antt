pub mod Alike
mod Below
pub mod Forms
pub mod Histories
mod Once
mod Passing
mod Recorded
pub mod Replies
pub mod Roles
mod Signed
mod Codes

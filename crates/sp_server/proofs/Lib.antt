pub mod Alike
pub mod Histories
pub mod Live
pub mod Obeying
pub mod Opening
pub mod Replies
pub mod Targets
mod Asked
mod Closing
mod Guarding
mod Held
mod Recorded
mod Services
mod Sessions
mod StayingClosed
mod Unclosed
mod Verdicts
mod Starts
mod Starving
mod Told
mod Staying
mod Tokens
pub mod Codes

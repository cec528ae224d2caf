pub mod Alike
pub mod Asking
pub mod Closing
mod Cookies
pub mod Ending
pub mod Histories
pub mod Ids
pub mod Issues
pub mod Logouts
pub mod Sessions
pub mod StayingEnded
pub mod Fields
pub mod MayStand
mod Made
mod Pages
pub mod Requests
pub mod Peers
pub mod Roles
pub mod Replies
pub mod Shown
pub mod Telling
mod Signed
mod Outcomes
mod Told
pub mod TurnRows
pub mod TurnTexts
mod Starving
mod Staying
mod Codes

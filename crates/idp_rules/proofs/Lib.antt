pub mod Deciding
pub mod Exclusive
pub mod Settled
pub mod Texts
pub mod Codes

pub mod Origin
pub mod Premises
pub mod Signed

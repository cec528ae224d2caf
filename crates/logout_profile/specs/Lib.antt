pub mod Carrying
pub mod Examples
pub mod Keys
pub mod Laws
pub mod Making
pub mod Verdict

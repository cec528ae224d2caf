pub mod Examples
pub mod Held
pub mod Laws
pub mod Serving
pub mod Turns
pub mod Worlds

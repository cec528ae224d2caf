pub mod Prefixes
pub mod Made
pub mod Pieces
pub mod Codes
pub mod Views
pub mod Writing

pub mod Algorithms
pub mod Faults
pub mod Form
pub mod Placing
pub mod Signature
pub mod Signing
pub mod Views
pub mod Vouching

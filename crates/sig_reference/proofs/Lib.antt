mod AnyScope
mod Checking
mod Digests
mod Examples
mod Lengths
mod MadeNames
mod MadeScopes
pub mod OneSignature
mod Parting
mod PutInside
mod Shapes
pub mod SignatureMade
mod SignedNodes
mod SignedPlace
mod SignedVouched
mod Standing
pub mod Tagging
mod Writable

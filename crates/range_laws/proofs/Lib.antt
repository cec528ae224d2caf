mod Examples
pub mod Fitting
pub mod Nesting

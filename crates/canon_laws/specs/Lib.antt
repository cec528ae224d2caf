pub mod Trees
pub mod Writable

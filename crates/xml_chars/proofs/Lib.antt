pub mod Names
pub mod Numbers
pub mod ReferenceKinds
pub mod Signs
pub mod Texts

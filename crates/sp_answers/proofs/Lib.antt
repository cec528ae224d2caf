pub mod Texts
pub mod Alike
mod SessionKeys
mod SessionTexts

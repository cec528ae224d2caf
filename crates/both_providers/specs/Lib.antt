pub mod Together

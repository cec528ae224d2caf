mod Together
mod Over

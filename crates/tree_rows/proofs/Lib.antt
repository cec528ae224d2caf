mod Ending
mod Growing

mod Usable
mod Headlines
mod Starting

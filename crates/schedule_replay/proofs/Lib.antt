mod Answering
mod Arriving
mod Calling
mod Going
mod Hosting
mod Passing
mod Replaying
mod Summing

mod Worlds
mod Standing
mod Going
mod Replaying
mod Anywhen

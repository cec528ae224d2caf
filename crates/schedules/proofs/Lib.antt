mod Making
mod Naming

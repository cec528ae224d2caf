pub mod Instants
pub mod JudgedPayloads
pub mod OneLine
pub mod Reading
pub mod Secrets
pub mod Told

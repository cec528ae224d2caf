mod Places
mod Silent

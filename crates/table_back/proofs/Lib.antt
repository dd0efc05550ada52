-- A key's place. The other laws stand with the module whose loops they serve: `back`.
pub mod Places

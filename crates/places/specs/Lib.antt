-- The places of diagnostics in bytes.
pub mod Places

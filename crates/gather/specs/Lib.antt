-- The definitions.
-- Assumes nothing.
pub mod Places

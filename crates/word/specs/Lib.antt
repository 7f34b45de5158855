-- The definitions.
-- Assumes nothing.
pub mod Mask

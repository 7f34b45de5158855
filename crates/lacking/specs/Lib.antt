-- The definitions.
-- Assumes nothing.
pub mod Lacking

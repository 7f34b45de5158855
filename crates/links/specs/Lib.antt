-- The definitions.
-- Assumes nothing.
pub mod Links

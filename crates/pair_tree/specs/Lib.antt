-- The definitions.
-- Assumes nothing.
pub mod Put

-- The definitions.
-- Assumes nothing.
pub mod Quick

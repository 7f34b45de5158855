-- The definitions.
-- Assumes nothing.
pub mod Fitting

-- The definitions that the contracts cite, and computed examples.
-- Assumes nothing.
pub mod Widened
pub mod Parts
pub mod Examples

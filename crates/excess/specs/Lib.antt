-- The definitions, in reading order.
-- Assumes nothing.
pub mod Excess
pub mod Examples

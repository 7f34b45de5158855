-- The definitions, in reading order.
-- Assumes nothing.
pub mod Falling
pub mod Dropping

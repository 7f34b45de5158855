-- The definitions, in reading order.
-- Assumes nothing.
pub mod Rounds
pub mod Turns

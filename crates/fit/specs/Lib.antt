-- The definitions, in reading order.
-- Assumes nothing.
pub mod Held
pub mod Known
pub mod Partner
pub mod Ranked

-- The definitions, in reading order.
-- Assumes nothing.
pub mod Digits
pub mod Appending

-- The definitions, in reading order.
-- Assumes nothing.
pub mod Words
pub mod Members
pub mod Examples

-- The definitions, in reading order.
-- Assumes nothing.
pub mod Input
pub mod Text
pub mod Examples

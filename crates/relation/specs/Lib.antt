-- The definitions, in reading order.
-- Assumes nothing.
pub mod Rows
pub mod Related
pub mod Ranks
pub mod Examples

-- The definitions, in reading order.
-- Assumes nothing.
pub mod Bytes
pub mod Refusals
pub mod Encode
pub mod Examples

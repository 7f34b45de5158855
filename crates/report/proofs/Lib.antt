-- Laws of the definitions of specs/, in reading order.
-- Assumes nothing.
pub mod Counting
pub mod Bounds
pub mod Writing

-- The definitions, in reading order.
-- Assumes nothing.
pub mod Sum
pub mod Fit
pub mod Limits
pub mod Table
pub mod Support
pub mod Round
pub mod Complete
pub mod Chain
pub mod Tree
pub mod Length
pub mod Demands
pub mod Examples

-- The definitions that the contracts of the check cite.
-- Assumes nothing.
pub mod Check
pub mod Demands
pub mod Dropped
pub mod Chain
pub mod Examples

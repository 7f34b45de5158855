-- The definitions that the contracts of this crate cite.
-- Assumes nothing.
pub mod Outcome
pub mod Condition
pub mod Steps

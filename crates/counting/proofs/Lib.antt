-- What the proofs of several functions use.
-- Assumes nothing.
pub mod Pairs
pub mod Targets
pub mod Owed
pub mod Counting

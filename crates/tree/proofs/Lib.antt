-- What the proofs of several functions use.
-- Assumes nothing.
pub mod Places
pub mod Bytes
pub mod Lengths
pub mod Slots
pub mod Nodes
pub mod Steps
pub mod Holes

-- Laws that the proofs cite.
-- Assumes nothing.
pub mod Room
pub mod Showing

-- Laws that the proofs cite.
-- Assumes nothing.
pub mod Members
pub mod Covering

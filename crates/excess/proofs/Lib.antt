-- Laws that the proofs cite.
-- Assumes nothing.
pub mod Sets
pub mod Gathering
pub mod Hall
pub mod Subsets
pub mod Parts

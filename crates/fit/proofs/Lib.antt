-- Laws that the proofs cite.
-- Assumes nothing.
pub mod Sets
pub mod Codes
pub mod Steps
pub mod Trying
pub mod Partner
pub mod Comparing

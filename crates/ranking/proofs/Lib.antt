-- Laws that the proofs cite.
-- Assumes nothing.
pub mod Writing
pub mod Zeros
pub mod Answer
pub mod Ends

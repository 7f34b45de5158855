-- Laws that the proofs cite.
-- Assumes nothing.
pub mod Dropping
pub mod Answers
pub mod Keeping
pub mod First

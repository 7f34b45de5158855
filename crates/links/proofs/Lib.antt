-- Laws that the proofs cite.
-- Assumes nothing.
pub mod Walks
pub mod Growing
pub mod Doubting

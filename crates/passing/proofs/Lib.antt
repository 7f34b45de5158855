-- What the proofs of several functions use.
-- Assumes nothing.
pub mod Listing
pub mod Passing
pub mod Walks

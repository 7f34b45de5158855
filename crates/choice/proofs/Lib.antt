-- What the proofs of several functions use.
-- Assumes nothing.
pub mod Choices
pub mod Choosing
pub mod Added
pub mod Parts

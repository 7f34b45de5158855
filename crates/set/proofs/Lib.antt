-- Laws of numbers made of words, and of sets.
-- Assumes nothing.
pub mod Words
pub mod Sets
pub mod ByWord
pub mod Walks

-- What the entry for C and Rust promises.
-- Assumes nothing.
pub mod Flowed

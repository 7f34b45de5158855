-- What a read returns.
-- Assumes nothing.
pub mod Reads

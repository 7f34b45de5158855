-- Laws of reading.
-- Assumes nothing.
pub mod Reading

-- What is written into a lent buffer.
-- Assumes nothing.
pub mod Buffer
pub mod Examples

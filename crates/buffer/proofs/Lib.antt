-- Laws of a buffer that is written from its start, and of a list of which a part is lent.
-- Assumes nothing.
pub mod Buffer
pub mod Parts

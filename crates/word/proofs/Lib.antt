-- Laws of masks.
-- Assumes nothing.
pub mod Mask

-- Laws of the answer buffer, and of the part that the display is handed.
-- Assumes nothing.
pub mod Into
pub mod Parts

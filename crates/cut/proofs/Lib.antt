-- Laws of the cut.
-- Assumes nothing.
pub mod Alike
pub mod Weighing
pub mod QuickLaws

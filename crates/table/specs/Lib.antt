-- The definitions, in reading order.
-- Assumes nothing.
pub mod Sections
pub mod Layouts

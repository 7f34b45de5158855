-- The definitions.
-- Assumes nothing.
pub mod Printed

-- Laws of digits, and of appending one thing after the other.
-- Assumes nothing.
pub mod Digits
pub mod Appending

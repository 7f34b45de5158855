-- What the answer of a call holds, and the part of a buffer that it tells of.
-- Assumes nothing.
pub mod Numbers
pub mod Display
pub mod Refused

-- The definitions that the parts of the flow kernel share.
-- Assumes nothing.
pub mod Problem
pub mod Matrix
pub mod Masks
pub mod Flow
pub mod Lists
pub mod Held

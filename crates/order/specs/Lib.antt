-- What the contracts of this crate cite.
-- Assumes nothing.
pub mod Order

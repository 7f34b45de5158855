-- The definitions, in reading order.
-- Assumes nothing.
pub mod Items
pub mod Valid
pub mod Form
pub mod Tables
pub mod Examples

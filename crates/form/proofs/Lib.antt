-- Laws of the definitions of specs/, in reading order.
-- Assumes nothing.
pub mod Lists
pub mod Items
pub mod Sound
pub mod FormLists
pub mod FormLaws
pub mod Support
pub mod Known
pub mod Completed
pub mod Contract

-- Laws of loading.
-- Assumes nothing.
pub mod FillLaws
pub mod SupportLaws
pub mod LoadLaws

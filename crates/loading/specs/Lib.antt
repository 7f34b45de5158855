-- What loading leaves in a form.
-- Assumes nothing.
pub mod Fill

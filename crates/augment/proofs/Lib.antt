-- Laws of a path and of moving along it.
-- Assumes nothing.
pub mod StepLaws
pub mod PathLaws
pub mod PushLaws

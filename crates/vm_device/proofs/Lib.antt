pub mod BroughtLemmas
pub mod CallLemmas
pub mod CloseLemmas
pub mod FoundLemmas
pub mod FrameLemmas
pub mod KeptLemmas
pub mod MappingLemmas
pub mod StepLemmas

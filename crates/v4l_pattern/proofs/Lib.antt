pub mod ShiftLemmas
pub mod CopyLemmas
pub mod LineLemmas
pub mod FillLemmas

pub mod FmtLemmas
pub mod Choices
pub mod CarriedLemmas
pub mod CopyLemmas
pub mod PictureLemmas

pub mod RowLemmas
pub mod ListLemmas
pub mod LineLemmas
pub mod PlaneLemmas
pub mod PictureLemmas
pub mod PixelLemmas

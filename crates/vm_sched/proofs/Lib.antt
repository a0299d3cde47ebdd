pub mod LeaveLemmas
pub mod HandLemmas
pub mod GoLemmas
pub mod ScheduleLemmas
pub mod LineLemmas

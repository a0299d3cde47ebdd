pub mod FrontLemmas
pub mod WalkLemmas
pub mod AskLemmas
pub mod ReadLemmas
pub mod BackLemmas
pub mod EventLemmas
pub mod ServeLemmas
pub mod LineLemmas

mod ChainLemmas
pub mod WalkLemmas

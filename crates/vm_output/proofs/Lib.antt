pub mod DoneLemmas
pub mod EchoLemmas
pub mod FitLemmas
pub mod IdLemmas
pub mod LentLemmas
pub mod OpensLemmas
pub mod ReadLemmas

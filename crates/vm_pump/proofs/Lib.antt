pub mod PumpLemmas
pub mod FilterLemmas

pub mod AdjustedLemmas
pub mod ModelLemmas
pub mod SeenLemmas
pub mod SetLemmas

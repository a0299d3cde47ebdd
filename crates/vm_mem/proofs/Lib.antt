pub mod OccurrenceLemmas

mod GatherLemmas
mod PageLemmas
mod PasteLemmas
mod ScatterLemmas

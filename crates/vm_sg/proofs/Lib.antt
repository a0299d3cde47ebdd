mod SizeLemmas
mod UserLemmas

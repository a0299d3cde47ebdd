pub mod BehindLemmas
pub mod BulkLemmas
pub mod ReadLemmas

pub mod EndsLemmas
pub mod ProgramLemmas
pub mod RunLemmas

pub mod CountLemmas
pub mod FitLemmas
pub mod JournalLemmas
pub mod LookUpLemmas
pub mod OrderLemmas
pub mod SoundLemmas

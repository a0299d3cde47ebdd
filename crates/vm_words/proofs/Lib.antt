pub mod DigitLemmas
pub mod ParseLemmas

pub mod CallLemmas
pub mod FormatLemmas
pub mod FrameLemmas
pub mod ReadBackLemmas
pub mod SizeLemmas
pub mod SoundLemmas
mod HeadLemmas
pub mod OutLemmas
pub mod StreamLemmas
pub mod SentLemmas

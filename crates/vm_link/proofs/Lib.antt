mod HeadLemmas
mod OutLemmas
mod SoundLemmas
pub mod QueueLemmas

mod CountLemmas
mod SoundLemmas

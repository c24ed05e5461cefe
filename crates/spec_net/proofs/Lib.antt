pub mod NetLemmas
pub mod BoundedLemmas
pub mod SoundLemmas
pub mod PublishLemmas

pub mod FilesLemmas
pub mod StepsLeave
pub mod EpochsRise
pub mod LeaseProgressLemmas
pub mod LeaseEndsLemmas

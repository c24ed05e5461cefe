pub mod AppPartiesLemmas
pub mod NodeCommandsLemmas
pub mod KnowledgeKept
pub mod Moments
pub mod OpenedMastersLemmas
pub mod RestKept
pub mod SentToPeers

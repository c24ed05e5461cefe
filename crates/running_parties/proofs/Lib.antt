pub mod SlotPlacesLemmas
pub mod SlotsLemmas
pub mod PeersLemmas
pub mod MastersLemmas

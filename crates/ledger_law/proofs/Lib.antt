pub mod SearchFinds
pub mod PlacesLemmas
pub mod KeptUnder
pub mod FormsLemmas
pub mod KeysRise
pub mod NoForm
pub mod KeyCodesLemmas
pub mod OneChange

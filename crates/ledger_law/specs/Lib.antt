pub mod Applying
pub mod ReadForms
pub mod Places
pub mod Shapes
pub mod Forms
pub mod OneForm
pub mod Differing
pub mod KeyCodes

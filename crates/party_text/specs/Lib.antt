pub mod Texts
pub mod MasterLines
pub mod PrintedRefusals

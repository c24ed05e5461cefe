pub mod PatchedRow
pub mod Sizes
pub mod NoRowForm
pub mod Totals
pub mod TotalAfter

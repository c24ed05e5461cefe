pub mod DeskLinesLemmas
pub mod PreparingLemmas
pub mod DeskProgressLemmas
pub mod DeskRunsLemmas
pub mod DeskTextsLemmas

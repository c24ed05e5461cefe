pub mod CasesLemmas

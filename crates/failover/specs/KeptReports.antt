-- What a master keeps of a machine's report.
use Rattle.std.specs.Prelude.{ℕ, cond, List, [], filter}
use Rattle.fuxi_terms.specs.Keys.{RowKey}
use Rattle.fuxi_terms.specs.Jobs.{KnownJob}
use Rattle.fuxi_terms.specs.Numbers.{has_number}
use Rattle.spec_roles.specs.MasterSteps.{is_kept}
use Rattle.hard_state.specs.Knowledge.{Knowledge}

abbrev pub kept_entries : List KnownJob → List (RowKey × ℕ) → List (RowKey × ℕ)
kept_entries jobs rows = filter (λ e. is_kept jobs e.0) rows

-- of a machine that is banned nothing is kept
abbrev pub kept_of : Knowledge → ℕ → List (RowKey × ℕ) → List (RowKey × ℕ)
kept_of known machine rows = cond (has_number machine known.bans) [] (kept_entries known.jobs rows)

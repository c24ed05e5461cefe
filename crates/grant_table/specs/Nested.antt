-- The map that nested lists of counts stand for: by job number, then by unit, then by machine.
use Rattle.std.specs.Prelude.{ℕ, ◌+◌, List, [], ◌∷◌}
use Rattle.std.proofs.Common.{get_or}
use Rattle.fuxi_terms.specs.Keys.{spot_cmp}
use Rattle.fuxi_terms.specs.Counts.{set_count}
use Rattle.fuxi_terms.specs.Tables.{spot, Table}

-- the counts of one unit, from a machine on, put into a map
abbrev pub counts_into : ℕ → ℕ → ℕ → List ℕ → Table → Table
counts_into a u m [] t = t
counts_into a u m (n ∷ ns) t = set_count spot_cmp (counts_into a u (m + 1) ns t) (spot a u m) n

abbrev pub units_into : ℕ → ℕ → List (List ℕ) → Table → Table
units_into a u [] t = t
units_into a u (h ∷ hs) t = counts_into a u 0 h (units_into a (u + 1) hs t)

abbrev pub jobs_into : ℕ → List (List (List ℕ)) → Table → Table
jobs_into a [] t = t
jobs_into a (v ∷ vs) t = units_into a 0 v (jobs_into (a + 1) vs t)

unfoldable pub entries_of : List (List (List ℕ)) → Table
entries_of rows = jobs_into 0 rows []

-- the count that stands at a job, a unit and a machine, and 0 past the ends
abbrev pub count_at : List (List (List ℕ)) → ℕ → ℕ → ℕ → ℕ
count_at rows a u m = get_or (get_or (get_or rows a []) u []) m 0

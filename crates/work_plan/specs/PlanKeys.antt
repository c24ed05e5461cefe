-- The keys of plans and of what runs, which name a worker of a unit.
use Rattle.std.specs.Prelude.{ℕ, nat_eq, nat_lt, ◌&&◌, List, map, filter}
use Rattle.fuxi_terms.specs.declared.Key.{Key}
use Rattle.fuxi_terms.specs.Limits.{most_units}
use Rattle.fuxi_terms.specs.TallyKeys.{key, where_holds}

-- the workers of a unit have numbers below this
abbrev pub most_workers : ℕ
most_workers = 256

-- no kind of entry goes with a new head
abbrev pub no_what : ℕ
no_what = 0

abbrev pub worker_key : ℕ → ℕ → Key
worker_key unit worker = key 1 unit worker

-- a worker of a unit is named or not
abbrev pub greatest_named : Key → ℕ
greatest_named k = where_holds (nat_eq k.what 1 && (nat_lt k.unit most_units && nat_lt k.number most_workers)) 1

-- the entries of a unit, and the workers that these name, the smallest number first
abbrev pub of_unit : ℕ → List (Key × ℕ) → List (Key × ℕ)
of_unit unit entries = filter (λ e. nat_eq e.0.unit unit) entries

abbrev pub named : ℕ → List (Key × ℕ) → List ℕ
named unit entries = map (λ e. e.0.number) (of_unit unit entries)

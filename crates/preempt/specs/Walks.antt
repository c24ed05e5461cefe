-- The admitted units, and the order in which they are walked.
use Rattle.std.specs.Prelude.{◌≡◌, ℕ, Bool, true, false, cond, nat_eq, nat_lt, get_or, List, [], ◌∷◌, ◌++◌, length, map}
use Rattle.std.specs.List.{flat_map}
use Rattle.fuxi_terms.specs.Cluster.{JobRecord}
use Rattle.fuxi_terms.specs.Keys.{Pair}
use Rattle.fuxi_terms.specs.Lists.{below}
use Rattle.fuxi_terms.specs.Tables.{spot, held, held_on, Table}
use Rattle.preempt.specs.declared.entry.Entry.{Entry}

-- all units of jobs, as pairs, in the order of job and unit
abbrev pub units_in : JobRecord → ℕ → List Pair
units_in j n = map (λ u. (j.number, u)) (below n)

abbrev pub all_units : List JobRecord → List Pair
all_units jobs = flat_map (λ (j : JobRecord). units_in j (length j.units)) jobs

-- those that pass a test, from the last to the first
abbrev pub backward : {A : Type 0} → (A → Bool) → List A → List A
backward test [] = []
backward test (x ∷ xs) = backward test xs ++ cond (test x) (x ∷ []) []

-- the priority of an entry is among those that are present
pub record HasItsPriority (present : List Bool) (e : Entry) : Type 0 where
  pub is : get_or present e.priority false ≡ true

-- by lower priority, each of them from the last to the first: entries, and pairs
abbrev pub of_priority : ℕ → Entry → Bool
of_priority n e = nat_eq e.priority n

abbrev pub entries_by_priority : List Entry → ℕ → List Entry
entries_by_priority es n = flat_map (λ p. backward (of_priority p) es) (below n)

abbrev pub pairs_by_priority : (ℕ → ℕ → ℕ) → List Pair → ℕ → List Pair
pairs_by_priority priorities ps n = flat_map (λ k. backward (λ p. nat_eq (priorities p.0 p.1) k) ps) (below n)

-- whether a unit has grants on any machine
abbrev pub holds_some : Table → Pair → Bool
holds_some es p = nat_lt 0 (held es p.0 p.1)

-- the entry of a unit on a machine, where it has grants there
abbrev pub entry_on : Table → ℕ → Pair → Table
entry_on es m p = cond (nat_lt 0 (held_on es p.0 p.1 m)) ((spot p.0 p.1 m, held_on es p.0 p.1 m) ∷ []) []

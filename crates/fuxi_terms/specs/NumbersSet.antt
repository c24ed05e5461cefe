-- Numbers that are set in a map, one after another, and the change that sets them.
use Rattle.std.specs.Prelude.{◌≡◌, ℕ, ℤ, ◌≤◌, cond, nat_eq, T, List, [], ◌∷◌}
use Rattle.std.specs.List.{AllByRecursion}
use Rattle.std.specs.declared.cmp.Ordering.{Ordering}
use Rattle.std.specs.FinMap.Entries.{is_sorted, find}
use Rattle.std.specs.Option.{is_some}
use Rattle.fuxi_terms.specs.Counts.{count, set_count, change_between}

module _ {K : Type 0} (R : K → K → Ordering) where
  abbrev pub numbers_set : List (K × ℕ) → List (K × ℕ) → List (K × ℕ)
  numbers_set es [] = es
  numbers_set es (n ∷ ns) = numbers_set (set_count R es n.0 n.1) ns

  -- the changes of those that differ
  abbrev pub moves : List (K × ℕ) → List (K × ℕ) → List (K × ℤ)
  moves es [] = []
  moves es (n ∷ ns) = cond (nat_eq (count R es n.0) n.1) (moves es ns) ((n.0, change_between (count R es n.0) n.1) ∷ moves es ns)

  -- numbers of keys that rise, none above the greatest of its key; 0 where there is to be none
  pub record AreNumbers (greatest : K → ℕ) (ns : List (K × ℕ)) : Type 0 where
    pub sorted : T (is_sorted R ns)
    pub within : AllByRecursion (λ n. n.1 ≤ greatest n.0) ns

  -- another map that has these numbers at their keys, and else what the first one has
  abbrev pub IsSetTo : List (K × ℕ) → List (K × ℕ) → List (K × ℕ) → Type 0
  IsSetTo es ns fs = (q : K) → count R fs q ≡ cond (is_some (find R q ns)) (count R ns q) (count R es q)

-- The names that change where a unit is settled, and what they make of a ledger.
use Rattle.std.specs.Prelude.{◌≡◌, ℕ, zero, suc, ◌<◌, Bool, true, false, cond, List, [], ◌∷◌, ◌++◌, Option, Some, None, get_or}
use Rattle.fuxi_terms.specs.declared.Key.{Key}
use Rattle.fuxi_terms.specs.Counts.{count}
use Rattle.fuxi_terms.specs.Keys.{key_cmp}
use Rattle.fuxi_terms.specs.Limits.{most_units}
use Rattle.fuxi_terms.specs.Numbers.{has_number}
use Rattle.fuxi_terms.specs.NumbersSet.{numbers_set}
use Rattle.work_plan.specs.PlanKeys.{most_workers, worker_key}

-- a worker that runs no longer, or now
abbrev pub turned : Bool → Bool → Option ℕ
turned true true = None
turned true false = Some 0
turned false true = Some 1
turned false false = None

abbrev pub name_of : ℕ → ℕ → Option ℕ → List (Key × ℕ)
name_of unit n None = []
name_of unit n (Some named) = (worker_key unit n, named) ∷ []

-- of the first so many numbers of a unit those that change, by the marks before and after
unfoldable pub changed : ℕ → List Bool → List Bool → ℕ → List (Key × ℕ)
changed unit before after zero = []
changed unit before after (suc n) = changed unit before after n ++ name_of unit n (turned (get_or before n false) (get_or after n false))

-- a ledger with these numbers set names of each unit these workers
abbrev pub Tells : List (Key × ℕ) → List (Key × ℕ) → (ℕ → List ℕ) → Type 0
Tells entries numbers work = (u n : ℕ) → u < most_units → n < most_workers → count key_cmp (numbers_set key_cmp entries numbers) (worker_key u n) ≡ cond (has_number n (work u)) 1 0

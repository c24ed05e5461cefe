-- The workers that run of a unit, each in its slot.
use Rattle.std.specs.Prelude.{◌≡◌, ℕ, ◌+◌, ◌-◌, ◌<◌, ◌≤◌, Bool, false, List, [], ◌∷◌, ◌++◌, length, map, take, filter, get_or, Option, Some, None}
use Rattle.std.specs.List.{AllByRecursion}
use Rattle.fuxi_terms.specs.declared.Key.{Key}
use Rattle.fuxi_terms.specs.Numbers.{has_number}
use Rattle.slot_pool.specs.Pools.{PoolRecord, value_at}
use Rattle.work_plan.specs.PlanKeys.{most_workers}
use Rattle.work_plan.specs.RunAfter.{missing}
use Rattle.work_plan.specs.declared.squad.Member.{Member}

-- their numbers, in the order of their start
abbrev pub workers_of : List Member → List ℕ
workers_of members = map (λ m. m.worker) members

-- no number stands twice
abbrev pub Distinct : List ℕ → Type 0
Distinct [] = Unit {0}
Distinct (n ∷ ns) = (has_number n ns ≡ false) × Distinct ns

-- in the slot of each stands its number, which is one that a worker can have; no two have one number; and there is room for all that there can be
pub record IsSquad (pool : PoolRecord ℕ) (members : List Member) : Type 0 where
  pub placed : AllByRecursion (λ m. value_at pool m.slot ≡ Some m.worker) members
  pub within : AllByRecursion (λ n. n < most_workers) (workers_of members)
  pub distinct : Distinct (workers_of members)
  pub room : most_workers ≤ pool.spare + length members

-- so many are started behind those that run
pub record Starts (before after : List Member) (numbers : List ℕ) : Type 0 where
  pub started : List Member
  pub behind : after ≡ before ++ started
  pub are : workers_of started ≡ numbers

-- those that stay
abbrev pub stay : List Member → List ℕ → ℕ → List Member
stay before wanted n = take n (filter (λ m. has_number m.worker wanted) before)

-- who stays keeps its slot; behind them those start that are missing
abbrev pub Settled : List Member → List Member → List ℕ → ℕ → Type 0
Settled before after wanted n = let rest = stay before wanted n in Starts rest after (take (n - length rest) (missing (workers_of rest) wanted))

-- the numbers of entries, which are numbers of workers, each once
abbrev pub numbers_of : List (Key × ℕ) → List ℕ
numbers_of entries = map (λ e. e.0.number) entries

pub record AreNumbers (entries : List (Key × ℕ)) : Type 0 where
  pub within : AllByRecursion (λ n. n < most_workers) (numbers_of entries)
  pub distinct : Distinct (numbers_of entries)

-- a mark for each number that stands in the list, and for no other
pub record Marks (marks : List Bool) (numbers : List ℕ) : Type 0 where
  pub each : (n : ℕ) → n < most_workers → get_or marks n false ≡ has_number n numbers

-- nobody runs of any unit
abbrev pub nobody : List (List Member)
nobody = [] ∷ [] ∷ [] ∷ [] ∷ [] ∷ [] ∷ [] ∷ [] ∷ []

-- who runs of a unit of an application, and their numbers; nobody of one that is not admitted
abbrev pub crew_of : Option (List (List Member)) → ℕ → List Member
crew_of None unit = []
crew_of (Some crew) unit = get_or crew unit []

abbrev pub members_at : List (Option (List (List Member))) → ℕ → ℕ → List Member
members_at crews app unit = crew_of (get_or crews app None) unit

abbrev pub runs_at : List (Option (List (List Member))) → ℕ → ℕ → List ℕ
runs_at crews app unit = workers_of (members_at crews app unit)

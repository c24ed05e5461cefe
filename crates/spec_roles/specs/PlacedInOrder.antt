-- The order of placing, by its four numbers.
use Rattle.std.specs.Prelude.{◌≡◌, ◌⊎◌, ℕ, ◌<◌, ◌≤◌, true, List, Some, slice_get}
use Rattle.std.specs.List.{AllByRecursion}
use Rattle.fuxi_terms.specs.Cluster.{ClusterRecord, has_machine, is_valid_job}
use Rattle.fuxi_terms.specs.Limits.{most_resources}
use Rattle.fuxi_terms.specs.Jobs.{KnownJob, priority_of}
use Rattle.fuxi_terms.specs.Keys.{Spot, Pair}
use Rattle.spec_roles.specs.Masters.{Master, level}
use Rattle.spec_roles.specs.Placing.{placeable}

-- the known jobs are valid
pub record AreValid (jobs : List KnownJob) : Type 0 where
  pub each : AllByRecursion (λ k. is_valid_job most_resources k.job ≡ true) jobs

-- what decides of a pair of the line and a machine: the unit's priority, its level there, its place in the line, and the machine
pub record Precedence : Type 0 where
  pub priority : ℕ
  pub level : ℕ
  pub place : ℕ
  pub machine : ℕ

abbrev pub precedence : ClusterRecord → Master → ℕ → Pair → ℕ → Precedence
precedence c M place p m = record { priority = priority_of M.jobs p.0 p.1; level = level c M p.0 p.1 m; place = place; machine = m }

-- one is not placed before another: it has a lower priority, or the same and a greater level, or the same and a later place, or the same and a
-- machine that is not smaller
abbrev pub IsNotBefore : Precedence → Precedence → Type 0
IsNotBefore x y = (x.priority < y.priority)
    ⊎ ((x.priority ≡ y.priority) × ((y.level < x.level)
    ⊎ ((x.level ≡ y.level) × ((y.place < x.place)
    ⊎ ((x.place ≡ y.place) × (y.machine ≤ x.machine))))))

-- Placed in order: the pair that is placed is a placeable pair of the line, and each other placeable pair of the line has a lower priority, or the same and a
-- greater level, or the same and a later place, or the same and a machine that is not smaller
pub record IsPlacedInOrder (c : ClusterRecord) (M : Master) (s : Spot) : Type 0 where
  pub place : ℕ
  pub there : slice_get M.line place ≡ Some (s.job, s.unit)
  pub may : placeable c M s.job s.unit s.machine ≡ true
  pub first : (n m : ℕ) (p : Pair) → slice_get M.line n ≡ Some p → has_machine c m ≡ true → placeable c M p.0 p.1 m ≡ true
      → IsNotBefore (precedence c M n p m) (precedence c M place (s.job, s.unit) s.machine)

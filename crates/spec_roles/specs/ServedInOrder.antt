-- In which order a preemption tries its candidates, and in which it goes along the grants of a machine.
use Rattle.std.specs.Prelude.{◌≡◌, ◌⊎◌, ℕ, ◌<◌, ◌≤◌, true, false, List, [], ◌∷◌, map, Some, slice_get}
use Rattle.std.specs.List.{AllByRecursion}
use Rattle.fuxi_terms.specs.Cluster.{ClusterRecord, has_machine}
use Rattle.fuxi_terms.specs.Counts.{count}
use Rattle.fuxi_terms.specs.Jobs.{KnownJob, priority_of, most_of}
use Rattle.fuxi_terms.specs.Keys.{Spot, spot_cmp}
use Rattle.fuxi_terms.specs.Numbers.{has_number}
use Rattle.fuxi_terms.specs.TallyKeys.{avoid_key}
use Rattle.fuxi_terms.specs.Tables.{held_on}
use Rattle.spec_roles.specs.Losses.{often}
use Rattle.spec_roles.specs.Masters.{Master, asked}
use Rattle.spec_roles.specs.Preemption.{tried, walk}

-- each member stands so to every one behind it
abbrev pub AreOrdered : {A : Type 0} → (A → A → Type 0) → List A → Type 0
AreOrdered R [] = Unit {0}
AreOrdered R (x ∷ xs) = AllByRecursion (R x) xs × AreOrdered R xs

-- the machine is reported, neither banned nor avoided, and the unit has fewer grants there than its greatest number
pub record IsUsable (M : Master) (a u m : ℕ) : Type 0 where
  pub reported : has_number m M.reported ≡ true
  pub banned : has_number m M.bans ≡ false
  pub avoided : asked M a (avoid_key u m) ≡ 0
  pub few : held_on M.table a u m < most_of M.jobs a u

-- a candidate with the place of its pair in the line
pub record IsCandidate (c : ClusterRecord) (M : Master) (x : ℕ × Spot) : Type 0 where
  pub there : slice_get M.line x.0 ≡ Some (x.1.job, x.1.unit)
  pub machine : has_machine c x.1.machine ≡ true
  pub usable : IsUsable M x.1.job x.1.unit x.1.machine

-- it is tried before another one: by greater priority, then earlier place in the line, then smaller machine
abbrev pub IsTriedBefore : List KnownJob → ℕ × Spot → ℕ × Spot → Type 0
IsTriedBefore jobs x y = (priority_of jobs y.1.job y.1.unit < priority_of jobs x.1.job x.1.unit)
    ⊎ ((priority_of jobs x.1.job x.1.unit ≡ priority_of jobs y.1.job y.1.unit) × ((x.0 < y.0)
    ⊎ ((x.0 ≡ y.0) × (x.1.machine < y.1.machine))))

-- Served in order: what is tried are candidates, by greater priority, then earlier place in the line, then smaller machine, and every candidate is among them
pub record AreTriedInOrder (c : ClusterRecord) (M : Master) : Type 0 where
  pub candidates : List (ℕ × Spot)
  pub spots : map (λ x. x.1) candidates ≡ tried c M
  pub are : AllByRecursion (IsCandidate c M) candidates
  pub ordered : AreOrdered (IsTriedBefore M.jobs) candidates
  pub all : (x : ℕ × Spot) → IsCandidate c M x → (k : ℕ) × (slice_get candidates k ≡ Some x)

-- a grant is not walked after another one: it has a lower priority, or the same and a greater job, or the same and a unit that is not smaller
abbrev pub IsNotAfter : List KnownJob → Spot → Spot → Type 0
IsNotAfter jobs s t = (priority_of jobs s.job s.unit < priority_of jobs t.job t.unit)
    ⊎ ((priority_of jobs s.job s.unit ≡ priority_of jobs t.job t.unit) × ((t.job < s.job)
    ⊎ ((s.job ≡ t.job) × (t.unit ≤ s.unit))))

-- Walked in order: the walk along a machine has its grants one at a time, by lower priority, then greater job, then greater unit
pub record AreWalkedInOrder (M : Master) (m : ℕ) : Type 0 where
  pub ordered : AreOrdered (IsNotAfter M.jobs) (walk M m)
  pub all : (s : Spot) → s.machine ≡ m → often s (walk M m) ≡ count spot_cmp M.table s

-- What a search over pairs finds.
use Rattle.std.specs.Prelude.{◌≡◌, ℕ, ◌+◌, Bool, nat_eq, List, length, map, filter, Option, None, Some, IfSome, MatchOption}
use Rattle.std.specs.Option.{option_map}
use Rattle.std.specs.List.{flat_map}
use Rattle.fuxi_terms.specs.Keys.{Spot, Pair}
use Rattle.fuxi_terms.specs.Jobs.{priority_of}
use Rattle.fuxi_terms.specs.Lists.{below}
use Rattle.fuxi_terms.specs.Tables.{spot}
use Rattle.spec_roles.specs.Placing.{accepts_in}
use Rattle.spec_roles.specs.Preemption.{first_plan_in}
use Rattle.grant_table.specs.GrantTables.{TableRecord, as_known}
use Rattle.preempt.specs.declared.plan.Plan.{Plan}
use Rattle.preempt.specs.Given.{board_at}
use Rattle.preempt.specs.Plans.{plan_as, CanBeMade}

-- a machine on which a unit is tried: the one who asks says that it may be granted there, and it holds fewer there than its greatest number
abbrev pub accepts_at : TableRecord → (ℕ → ℕ → ℕ → Bool) → ℕ → ℕ → ℕ → Bool
accepts_at t usable a u m = accepts_in (board_at t usable) t.entries a u m

-- the pairs of a unit with those of the first machines that accept it, and of all machines
abbrev pub pairs_to : (ℕ → ℕ → ℕ → Bool) → ℕ → Pair → List Spot
pairs_to accepts n p = map (spot p.0 p.1) (filter (accepts p.0 p.1) (below n))

abbrev pub pairs_on : TableRecord → (ℕ → ℕ → ℕ → Bool) → Pair → List Spot
pairs_on t usable p = pairs_to (accepts_at t usable) (length t.cluster.machines) p

-- and of those units that have a priority
abbrev pub pairs_at : TableRecord → (ℕ → ℕ → ℕ → Bool) → ℕ → List Pair → List Spot
pairs_at t usable n ps = flat_map (pairs_on t usable) (filter (λ p. nat_eq (priority_of (as_known t.jobs) p.0 p.1) n) ps)

-- the plan of the first of these pairs that has victims, and it can be carried out
pub record IsFound (t : TableRecord) (usable : ℕ → ℕ → ℕ → Bool) (pairs : List Spot) (found : Option Plan) : Type 0 where
  pub is : option_map plan_as found ≡ first_plan_in pairs (board_at t usable) t.entries
  pub made : IfSome found (CanBeMade t)

-- the pairs of a unit with the first machines have no victims
abbrev pub HasPassed : TableRecord → (ℕ → ℕ → ℕ → Bool) → Pair → ℕ → Type 0
HasPassed t usable p n = first_plan_in (pairs_to (accepts_at t usable) n p) (board_at t usable) t.entries ≡ None

-- what a search finds on the machine behind them
abbrev pub GoesOn : TableRecord → (ℕ → ℕ → ℕ → Bool) → Pair → ℕ → Option Plan → Type 0
GoesOn t usable p n found = HasPassed t usable p n → MatchOption found (HasPassed t usable p (n + 1)) (λ plan. IsFound t usable (pairs_on t usable p) (Some plan))

-- What is said of the states of a run.
use Rattle.std.specs.Prelude.{◌≡◌, ℕ, Some}
use Rattle.std.specs.Ordering.{nat_cmp}
use Rattle.std.specs.FinMap.Entries.{find}
use Rattle.spec_roles.specs.Masters.{Master}
use Rattle.spec_roles.specs.Preemption.{Plan, plan_of}
use Rattle.spec_roles.specs.TakenByQuota.{AreTakenByQuota}
use Rattle.spec_world.specs.World.{World, App}
use Rattle.spec_world.specs.KeepsGrants.{AllAdopt, AllReport, AllStay}
use Rattle.spec_world.specs.Safe.{CountsOnce}

-- of each running application and each machine, what it holds there counts once
pub record AllCountOnce (w : World) : Type 0 where
  pub each : (a : ℕ) (g : App) → find nat_cmp a w.apps ≡ Some g → (m : ℕ) → CountsOnce w a g m

-- what a running master takes for a unit that waits is taken by quota
pub record AllTakeByQuota (w : World) : Type 0 where
  pub each : (e : ℕ) (M : Master) (p : Plan) → find nat_cmp e w.masters ≡ Some M → plan_of w.cluster M ≡ Some p → AreTakenByQuota w.cluster M p.served p.losers

-- a failover keeps grants
pub record AllKeepGrants (w : World) : Type 0 where
  pub adopts : AllAdopt w
  pub reports : AllReport w
  pub stays : AllStay w

-- What a give-back makes of an application.
use Rattle.std.specs.Prelude.{◌≡◌, ℕ, ◌+◌, Some}
use Rattle.std.specs.Ordering.{nat_cmp}
use Rattle.std.specs.FinMap.Entries.{find}
use Rattle.spec_net.specs.Channels.{app_id, party}
use Rattle.spec_world.specs.World.{World, App}
use Rattle.spec_world.specs.Events.{GiveBack, world_step}
use Rattle.spec_world.specs.Parties.{app_held}
use Rattle.spec_world.specs.EventSteps.{IsDone}

-- from one world to the next an application holds this number less of one unit on one machine, and of all others the same
pub record HoldsLess (w v : World) (a : ℕ) (g : App) (u m n : ℕ) : Type 0 where
  pub less : app_held v.net (party (app_id a) g.boot) g u m + n ≡ app_held w.net (party (app_id a) g.boot) g u m
  pub others : (o k : ℕ) → ((o ≡ u) × (k ≡ m) → ⊥) → app_held v.net (party (app_id a) g.boot) g o k ≡ app_held w.net (party (app_id a) g.boot) g o k

-- Gives back what is held: a give-back that is not refused takes exactly its number from what the application holds
pub record AllGiveBack (w : World) : Type 0 where
  pub gives : (a u m n : ℕ) (g : App) → find nat_cmp a w.apps ≡ Some g → IsDone w (GiveBack a u m n)
      → (find nat_cmp a (world_step w (GiveBack a u m n)).world.apps ≡ Some g) × HoldsLess w (world_step w (GiveBack a u m n)).world a g u m n

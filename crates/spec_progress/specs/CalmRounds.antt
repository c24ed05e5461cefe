-- Calm rounds, in which nothing is lost: the master of the fence tells all that it has to tell, and then all others do.
use Rattle.std.specs.Prelude.{◌≡◌, ℕ, zero, suc, ◌+◌, ◌≤◌, true, cond, nat_lt, List, [], ◌∷◌, ◌++◌, length, map, Some, is_some}
use Rattle.std.specs.Ordering.{nat_cmp}
use Rattle.std.specs.FinMap.Entries.{find}
use Rattle.fuxi_terms.specs.Cluster.{ClusterRecord, has_machine}
use Rattle.fuxi_terms.specs.Lists.{below}
use Rattle.fuxi_terms.specs.Numbers.{has_number}
use Rattle.spec_roles.specs.Masters.{Master}
use Rattle.spec_world.specs.World.{World, App}
use Rattle.spec_world.specs.Events.{Event, TurnMaster, TurnAgent, TurnApp, DeliverRange, world_step}
use Rattle.spec_world.specs.Quiet.{is_quiet}
use Rattle.spec_world.specs.Runs.{run_from, run}
use Rattle.spec_world.specs.Safe.{Safe}

-- all packets that were sent since there were so many are delivered at once, in their order, where there are any
abbrev pub delivered_since : ℕ → World → World
delivered_since before w = cond (nat_lt before (length w.net.packets)) (world_step w (DeliverRange (before + 1) (length w.net.packets))).world w

-- events, and one delivery of all that they sent
abbrev pub with_delivery : List Event → World → World
with_delivery es w = delivered_since (length w.net.packets) (run_from es w).world

-- the turn of the master of the fence
abbrev pub master_tells : World → World
master_tells w = with_delivery (TurnMaster w.hard.fence ∷ []) w

-- the turns of all agents, and of these applications
abbrev pub peers_turn : List ℕ → World → List Event
peers_turn apps w = map TurnAgent (below (length w.cluster.machines)) ++ map TurnApp apps

abbrev pub peers_tell : List ℕ → World → World
peers_tell apps w = with_delivery (peers_turn apps w) w

abbrev pub calm_round : List ℕ → World → World
calm_round apps w = peers_tell apps (master_tells w)

abbrev pub calm_rounds : ℕ → List ℕ → World → World
calm_rounds zero apps w = w
calm_rounds (suc n) apps w = calm_round apps (calm_rounds n apps w)

-- so many rounds, and the master once more
abbrev pub closed : ℕ → List ℕ → World → World
closed n apps w = master_tells (calm_rounds n apps w)

-- The master of the fence runs, and every machine's agent; and the applications that run are among these
pub record IsManned (w : World) : Type 0 where
  pub master : is_some (find nat_cmp w.hard.fence w.masters) ≡ true
  pub agents : (m : ℕ) → has_machine w.cluster m ≡ true → is_some (find nat_cmp m w.agents) ≡ true

pub record AreNamed (apps : List ℕ) (w : World) : Type 0 where
  pub named : (a : ℕ) (g : App) → find nat_cmp a w.apps ≡ Some g → has_number a apps ≡ true

-- how many rounds bring every world to rest
abbrev pub most_rounds : ℕ
most_rounds = 7

-- a world at rest: quiet for the master of an epoch, which serves, and safe: so all parties have the same numbers, and no allowed unit waits that fits
pub record IsCalm (e : ℕ) (w : World) : Type 0 where
  pub quiet : is_quiet w e ≡ true
  pub serves : (M : Master) → find nat_cmp e w.masters ≡ Some M → M.serving ≡ true
  pub safe : Safe w

-- from a state to which an input leads and in which these run, the world is at rest behind so many rounds or more and a last turn of the master
abbrev pub CalmBringsQuiet : ClusterRecord → List Event → Type 0
CalmBringsQuiet c es = IsManned (run c es) → (apps : List ℕ) → AreNamed apps (run c es) → (n : ℕ) → most_rounds ≤ n → IsCalm (run c es).hard.fence (closed n apps (run c es))

-- and so many rounds leave the cluster and the hard state as they were
pub record IsAsBefore (w w' : World) : Type 0 where
  pub cluster : w'.cluster ≡ w.cluster
  pub hard : w'.hard ≡ w.hard

abbrev pub CalmKeeps : ClusterRecord → List Event → Type 0
CalmKeeps c es = IsManned (run c es) → (apps : List ℕ) → AreNamed apps (run c es) → (n : ℕ) → IsAsBefore (run c es) (calm_rounds n apps (run c es)) × IsAsBefore (run c es) (closed n apps (run c es))

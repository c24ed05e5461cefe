-- The storm: what its events make of the world, or the first limit that one of them would pass.
use Rattle.std.specs.Prelude.{ℕ, zero, suc, ◌+◌, cond, nat_lt, List, [], ◌∷◌, length, Option, Some, None, Result, Ok, Err}
use Rattle.fuxi_terms.specs.Cluster.{JobRecord}
use Rattle.fuxi_terms.specs.Limits.{greatest_count}
use Rattle.fuxi_terms.specs.Counts.{then_do}
use Rattle.spec_world.specs.World.{World, empty_world}
use Rattle.spec_world.specs.Events.{Event, StartMaster, StartAgent, StartApp, Submit, TurnMaster, TurnAgent, TurnApp, DeliverRange, world_step}
use Rattle.schedule_replay.specs.declared.stop.WorldStop.{WorldStop}
use Rattle.schedule_replay.specs.WorldSteps.{limit_of}
use Rattle.storm_run.specs.Choices.{counted, chosen}
use Rattle.storm_run.specs.Clusters.{storm_cluster}

-- An event that would pass a limit is not taken. One that is refused is taken, and changes nothing but the number of events
abbrev pub unless_past : World → Option WorldStop → Result World WorldStop
unless_past w None = Ok w
unless_past w (Some stop) = Err stop

abbrev pub taken : World → Event → Result World WorldStop
taken w e = let w' = (world_step w e).world in unless_past w' (limit_of w w')

-- events in their order
abbrev pub all_taken : List Event → World → Result World WorldStop
all_taken [] w = Ok w
all_taken (e ∷ es) w = then_do (taken w e) (all_taken es)

-- for each number below one, in their order
abbrev pub each : {A E : Type 0} → ℕ → (ℕ → A → Result A E) → A → Result A E
each zero f x = Ok x
each (suc n) f x = then_do (each n f x) (f n)

-- The first events: a master, all agents, three jobs of one unit, and their applications
abbrev pub job : ℕ → ℕ → ℕ → List ℕ → JobRecord
job number group priority size = record { number = number; group = group; units = (record { priority = priority; size = size; most = greatest_count }) ∷ [] }

abbrev pub submitted : World → Result World WorldStop
submitted w =
    then_do (taken w (Submit 1 (job 0 0 5 (100 ∷ 400 ∷ []))))
    (λ w. then_do (taken w (Submit 1 (job 1 0 3 (200 ∷ 300 ∷ []))))
    (λ w. taken w (Submit 1 (job 2 1 4 (50 ∷ 700 ∷ [])))))

unfoldable pub opened : World → Result World WorldStop
opened w =
    then_do (taken w (StartMaster 1))
    (λ w. then_do (each 8 (λ m w. taken w (StartAgent m 1)) w)
    (λ w. then_do (submitted w)
    (each 3 (λ a w. taken w (StartApp a 1)))))

-- The steps: the world, and the generator by its state
pub record Storm : Type 0 where
  pub world : World
  pub generator : ℕ

abbrev pub storm_at : World → ℕ → Storm
storm_at w x = record { world = w; generator = x }

abbrev pub stepped : Storm → Result Storm WorldStop
stepped s = let c = chosen s.world s.generator in then_do (all_taken c.events s.world) (λ w. Ok (storm_at w c.generator))

abbrev pub all_stepped : ℕ → Storm → Result Storm WorldStop
all_stepped steps = each steps (λ n. stepped)

-- The closing rounds. All packets that were sent since there were so many are delivered at once, where there are any
abbrev pub delivered : ℕ → World → Result World WorldStop
delivered before w = cond (nat_lt before (length w.net.packets)) (taken w (DeliverRange (before + 1) (length w.net.packets))) (Ok w)

abbrev pub with_delivery : (World → Result World WorldStop) → World → Result World WorldStop
with_delivery f w = then_do (f w) (delivered (length w.net.packets))

abbrev pub master_turned : World → Result World WorldStop
master_turned w = all_taken (counted w.hard.fence TurnMaster) w

unfoldable pub peers_turned : World → Result World WorldStop
peers_turned w = then_do (each 8 (λ m w. taken w (TurnAgent m)) w) (each 3 (λ a w. taken w (TurnApp a)))

-- the newest master tells all that it has to tell, and then its peers do
abbrev pub round : World → Result World WorldStop
round w = then_do (with_delivery master_turned w) (with_delivery peers_turned)

abbrev pub rounds : ℕ → World → Result World WorldStop
rounds count = each count (λ n. round)

-- eight rounds, and the master once more
unfoldable pub closed : World → Result World WorldStop
closed w = then_do (rounds 8 w) (with_delivery master_turned)

-- the greatest number of steps
abbrev pub most_storm_steps : ℕ
most_storm_steps = 10000

-- The whole storm of a seed: the first events on the empty world, so many steps, and the closing rounds
abbrev pub storm : ℕ → ℕ → Result World WorldStop
storm seed steps = then_do (opened (empty_world storm_cluster)) (λ w. then_do (all_stepped steps (storm_at w seed)) (λ s. closed s.world))

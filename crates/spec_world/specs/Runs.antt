-- Runs: lists of events from the empty world on, and what they print.
use Rattle.std.specs.Prelude.{List, [], ◌∷◌, ◌++◌}
use Rattle.fuxi_terms.specs.Cluster.{ClusterRecord}
use Rattle.spec_world.specs.Outputs.{Line}
use Rattle.spec_world.specs.World.{World, Step, empty_world, prints_nothing, then_step}
use Rattle.spec_world.specs.Events.{Event, world_step}
use Rattle.spec_world.specs.Show.{show}

-- the events in their order, from a world on
abbrev pub run_from : List Event → World → Step
run_from [] w = prints_nothing w
run_from (e ∷ es) w = then_step (world_step w e) (λ w. run_from es w)

-- the world to which events lead
abbrev pub run : ClusterRecord → List Event → World
run c es = (run_from es (empty_world c)).world

-- all output lines
abbrev pub outputs : ClusterRecord → List Event → List Line
outputs c es = (run_from es (empty_world c)).lines

-- the whole text: the output lines, and then the state
abbrev pub text : ClusterRecord → List Event → List Line
text c es = let s = run_from es (empty_world c) in s.lines ++ show s.world

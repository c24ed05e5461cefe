-- What a stop within a writing leaves.
use Rattle.std.specs.Prelude.{◌≡◌, ℕ, Bool, true, false, cond, List, [], ◌∷◌, ◌++◌, None}
use Rattle.std.specs.Ordering.{nat_cmp}
use Rattle.std.specs.FinMap.Entries.{find}
use Rattle.fuxi_terms.specs.Cluster.{ClusterRecord}
use Rattle.spec_roles.specs.Refusals.{Refusal}
use Rattle.spec_world.specs.Outputs.{Halted, Refused}
use Rattle.spec_world.specs.World.{World, refused}
use Rattle.spec_world.specs.Events.{Event, StartMaster, Halt, counted_in, is_written, without_master, world_step, writer_of}
use Rattle.spec_world.specs.Runs.{run}
use Rattle.spec_world.specs.EventSteps.{IsDone}

-- the line is one that is only for a new master
abbrev pub is_start : Event → Bool
is_start (StartMaster e) = true
is_start x = false

-- Halts: of a line that would not be refused the stop is printed; the hard state is that behind the line where the stop came behind its writing, and else that before it; the
-- master does not run, and nothing else changes. Behind the stop of a submission, an end of a job, a ban or the end of a ban its master never runs again; and a master that
-- stopped before its start was written may be started
pub record Halts (c : ClusterRecord) (before after : List Event) (calls : ℕ) (all : Bool) (x : Event) : Type 0 where
  pub lines : (world_step (run c before) (Halt calls all x)).lines ≡ Halted (writer_of x) (is_written calls all) ∷ []
  pub world : (world_step (run c before) (Halt calls all x)).world
      ≡ without_master (counted_in (run c before)) (writer_of x) (cond (is_written calls all) (world_step (run c before) x).world.hard (run c before).hard)
  pub gone : find nat_cmp (writer_of x) (run c (before ++ Halt calls all x ∷ [])).masters ≡ None
  pub stays : is_start x ≡ false → find nat_cmp (writer_of x) (run c (before ++ Halt calls all x ∷ after)).masters ≡ None
  pub starts : is_start x ≡ true → is_written calls all ≡ false → IsDone (run c (before ++ Halt calls all x ∷ [])) x

-- of a refused line the stop prints the refusal, and nothing changes but the number of events
abbrev pub StopsNobody : World → Event → Refusal → Type 0
StopsNobody w x r = (calls : ℕ) (all : Bool) → (world_step w x).lines ≡ Refused r ∷ [] → world_step w (Halt calls all x) ≡ refused (counted_in w) r

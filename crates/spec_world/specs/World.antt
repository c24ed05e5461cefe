-- The written world: all parties, the hard state, and all that was ever sent.
use Rattle.std.specs.Prelude.{ℕ, Bool, cond, List, [], ◌∷◌, ◌++◌, Some, None, Result, Ok, Err}
use Rattle.fuxi_terms.specs.Cluster.{ClusterRecord}
use Rattle.spec_net.specs.Net.{Net, Party, Id, silent, same_id}
use Rattle.spec_net.specs.Ledgers.{Ledger}
use Rattle.spec_net.specs.Channels.{master_id}
use Rattle.spec_roles.specs.Masters.{Master}
use Rattle.spec_roles.specs.HardState.{HardState, empty_hard}
use Rattle.spec_roles.specs.Refusals.{Refusal, first_refusal}
use Rattle.spec_world.specs.Outputs.{Line, Refused}
use Rattle.spec_roles.specs.Apps.{Carried}

-- An agent. Its carried row is the row of its last report, and its place stands in the net
pub record Agent : Type 0 where
  pub boot : ℕ

-- An application. Its demand is the last entry of its history; carried is by machine
pub record App : Type 0 where
  pub boot : ℕ
  pub units : ℕ
  pub carried : List (ℕ × Carried)

-- boots: the last boot of each agent and application; ran: every incarnation that ever ran; the running parties by epoch, machine
-- and job; and the number of events so far
pub record World : Type 0 where
  pub cluster : ClusterRecord
  pub hard : HardState
  pub boots : Id → ℕ
  pub ran : List Party
  pub masters : List (ℕ × Master)
  pub agents : List (ℕ × Agent)
  pub apps : List (ℕ × App)
  pub net : Net Ledger
  pub events : ℕ

abbrev pub empty_world : ClusterRecord → World
empty_world c = record { cluster = c; hard = empty_hard; boots = λ d. 0; ran = []; masters = []; agents = []; apps = []; net = silent; events = 0 }

-- the greatest incarnation that ran: of the master the fence, else the last boot
abbrev pub top : World → Id → ℕ
top w d = cond (same_id master_id d) w.hard.fence (w.boots d)

abbrev pub set_boot : (Id → ℕ) → Id → ℕ → Id → ℕ
set_boot boots id n d = cond (same_id id d) n (boots d)

-- what an event makes of the world, and what it prints
pub record Step : Type 0 where
  pub world : World
  pub lines : List Line

abbrev pub prints_nothing : World → Step
prints_nothing w = record { world = w; lines = [] }

-- a refused event changes nothing
abbrev pub refused : World → Refusal → Step
refused w r = record { world = w; lines = Refused r ∷ [] }

-- one step, and then another from where it ended
abbrev pub then_step : Step → (World → Step) → Step
then_step s f = let t = f s.world in record { world = t.world; lines = s.lines ++ t.lines }

-- the first refusal of these tests, else the step
abbrev pub unless_refused : World → List (Bool × Refusal) → (World → Step) → Step
unless_refused w tests f = elim (first_refusal tests) [ None ↦ f w | Some r ↦ refused w r ]

-- a refused result, or the step that it leads to
abbrev pub on_result : {A : Type 0} → World → Result A Refusal → (A → Step) → Step
on_result w (Ok x) f = f x
on_result w (Err r) f = refused w r

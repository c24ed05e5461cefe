-- What holds of the running parties in every state.
use Rattle.std.specs.Prelude.{◌≡◌, ℕ, ◌*◌, ◌<◌, ◌≤◌, true, false, cond, nat_eq, ◌&&◌, List, Option, Some, None}
use Rattle.std.specs.Option.{option_map}
use Rattle.std.specs.List.{sum_by}
use Rattle.std.specs.Ordering.{nat_cmp}
use Rattle.std.specs.FinMap.Entries.{find}
use Rattle.fuxi_terms.specs.Vectors.{at_place}
use Rattle.fuxi_terms.specs.Cluster.{ClusterRecord, has_at, has_machine}
use Rattle.fuxi_terms.specs.Keys.{RowKey}
use Rattle.spec_net.specs.Net.{Net, Party, Id, last, at_index}
use Rattle.spec_net.specs.Ledgers.{Ledger, nothing, at_key}
use Rattle.fuxi_terms.specs.TallyKeys.{count_key}
use Rattle.spec_net.specs.Channels.{master_id, agent_id, app_id, party, view, present, is_caught_up}
use Rattle.fuxi_terms.specs.Jobs.{KnownJob, is_known, size_at}
use Rattle.fuxi_terms.specs.Lists.{below}
use Rattle.spec_roles.specs.Masters.{Master}
use Rattle.fuxi_terms.specs.Tables.{held_on}
use Rattle.spec_roles.specs.Placing.{placeable}
use Rattle.spec_world.specs.World.{World, Agent, App}
use Rattle.spec_world.specs.Parties.{agent_table, app_held}
use Rattle.spec_roles.specs.Apps.{names}
use Rattle.spec_world.specs.Quiet.{is_quiet}

-- Capacity. Count times size over rows, in one resource
abbrev pub row_total_at : ℕ → List (RowKey × ℕ) → ℕ
row_total_at i rows = sum_by (λ e. e.1 * at_place e.0.size i) rows

abbrev pub RowsFit : ClusterRecord → ℕ → List (RowKey × ℕ) → Type 0
RowsFit c m rows = (i : ℕ) → i < c.resources → row_total_at i rows ≤ has_at c m i

-- each agent's table fits its machine
abbrev pub AllFit : World → Type 0
AllFit w = (m : ℕ) (g : Agent) → find nat_cmp m w.agents ≡ Some g → RowsFit w.cluster m (agent_table w.net (party (agent_id m) g.boot))

-- Once. The place that an application has for a machine: its own where its view names the machine, else the origin of what it carries
abbrev pub place_for : Net Ledger → Party → App → ℕ → Option (ℕ × ℕ)
place_for net p g m = let l = net.links p master_id in
    cond (names (view net p master_id) m) (Some (l.known, l.seq)) (option_map (λ r. (r.inc, r.seq)) (find nat_cmp m g.carried))

-- the grants entry at a place
abbrev pub grants_at : Net Ledger → ℕ → ℕ × ℕ → Ledger
grants_at net a place = at_index nothing (net.histories (party master_id place.0) (app_id a)) place.1

-- numbers of a job's units on a machine, times their sizes
abbrev pub units_total_at : List KnownJob → ℕ → ℕ → (ℕ → ℕ) → ℕ → ℕ
units_total_at jobs a units number i = sum_by (λ u. number u * size_at jobs a u i) (below units)

-- no grant counts twice: each held number is at most the count at one place, and 0 without a place
pub record HeldOnce (net : Net Ledger) (a : ℕ) (g : App) (m : ℕ) : Type 0 where
  pub nowhere : place_for net (party (app_id a) g.boot) g m ≡ None → (u : ℕ) → app_held net (party (app_id a) g.boot) g u m ≡ 0
  pub counts : (place : ℕ × ℕ) → place_for net (party (app_id a) g.boot) g m ≡ Some place → (u : ℕ) → app_held net (party (app_id a) g.boot) g u m ≤ at_key (grants_at net a place) (count_key u m)

-- and together they fit the machine
pub record CountsOnce (w : World) (a : ℕ) (g : App) (m : ℕ) : Type 0 where
  pub once : HeldOnce w.net a g m
  pub fits : (i : ℕ) → i < w.cluster.resources → units_total_at w.hard.jobs a g.units (λ u. app_held w.net (party (app_id a) g.boot) g u m) i ≤ has_at w.cluster m i

-- Agreement. What an agent's table says of a unit
abbrev pub row_count : List (RowKey × ℕ) → ℕ → ℕ → ℕ
row_count rows a u = sum_by (λ e. cond (nat_eq e.0.job a && nat_eq e.0.unit u) e.1 0) rows

-- a master, the agents and the applications have the same numbers for each job, unit and machine
pub record Agrees (w : World) (M : Master) : Type 0 where
  pub agents : (m : ℕ) (g : Agent) → find nat_cmp m w.agents ≡ Some g → (a u : ℕ) → row_count (agent_table w.net (party (agent_id m) g.boot)) a u ≡ held_on M.table a u m
  pub apps : (a : ℕ) (g : App) → find nat_cmp a w.apps ≡ Some g → is_known M.jobs a ≡ true → (u m : ℕ) → has_machine w.cluster m ≡ true
      → app_held w.net (party (app_id a) g.boot) g u m ≡ held_on M.table a u m

-- in a quiet world a running master, the agents and the applications of its jobs agree
abbrev pub AllAgree : World → Type 0
AllAgree w = (e : ℕ) (M : Master) → find nat_cmp e w.masters ≡ Some M → is_quiet w e ≡ true → Agrees w M

-- each place names an entry that is there, and where a channel is caught up, the sender's present ledger
pub record Views (net : Net Ledger) : Type 0 where
  pub there : (p : Party) (q : Id) → (net.links p q).seq ≤ last net (party q (net.links p q).known) p.id
  pub current : (s r : Party) → is_caught_up net s r ≡ true → view net r s.id ≡ present net s r.id

-- no pair is placeable in a running master
abbrev pub AllSettled : World → Type 0
AllSettled w = (e : ℕ) (M : Master) → find nat_cmp e w.masters ≡ Some M → (a u m : ℕ) → placeable w.cluster M a u m ≡ false

pub record Safe (w : World) : Type 0 where
  pub capacity : AllFit w
  pub once : (a : ℕ) (g : App) → find nat_cmp a w.apps ≡ Some g → (m : ℕ) → CountsOnce w a g m
  pub views : Views w.net
  pub agreement : AllAgree w
  pub settled : AllSettled w

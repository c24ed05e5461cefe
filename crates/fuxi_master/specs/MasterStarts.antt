-- A master as it starts.
use Rattle.std.specs.Prelude.{◌≡◌, ℕ, true, false, nat_lt, List, [], ◌∷◌, length, Option, Some, None, slice_get, is_some}
use Rattle.fuxi_terms.specs.Cluster.{ClusterRecord}
use Rattle.fuxi_terms.specs.Jobs.{KnownJob, is_known}
use Rattle.fuxi_terms.specs.Tallies.{empty_tally}
use Rattle.spec_net.specs.Ledgers.{nothing, tally_ledger}
use Rattle.spec_net.specs.Sides.{Side, new_side}
use Rattle.spec_roles.specs.Masters.{Master}
use Rattle.grant_table.specs.GrantTables.{as_known}
use Rattle.allotment.specs.PlacingReads.{record_of}
use Rattle.allotment.specs.Allotted.{AllotmentRecord, Allots, AllWait}
use Rattle.ledger_updates.specs.AllShown.{Down, App}
use Rattle.fuxi_master.specs.Cores.{IsDown, IsApp}

-- the end of a channel with an agent that nothing was shown to
pub record IsDownStarted (epoch : ℕ) (d : Down) : Type 0 where
  pub own : d.outgoing.own ≡ epoch
  pub last : d.outgoing.last ≡ 0
  pub present : d.outgoing.present ≡ []
  pub stands : IsDown d epoch new_side

-- a side to which grants of nothing were shown
abbrev pub side_started : Side
side_started = record { link = new_side.link; got = nothing; sent = tally_ledger 0 [] ∷ [] }

pub record IsAppStarted (epoch : ℕ) (d : App) : Type 0 where
  pub own : d.outgoing.own ≡ epoch
  pub last : d.outgoing.last ≡ 1
  pub present : d.outgoing.present ≡ empty_tally
  pub place : d.incoming.place.inc ≡ 0
  pub stands : IsApp d epoch side_started

-- a slot for each number below n, with the end of the channel where the job is known
pub record AreAppsStarted (epoch : ℕ) (jobs : List KnownJob) (n : ℕ) (slots : List (Option App)) : Type 0 where
  pub wide : length slots ≡ n
  pub slots_are : (a : ℕ) (o : Option App) → slice_get slots a ≡ Some o → is_some o ≡ is_known jobs a
  pub each : (a : ℕ) (d : App) → slice_get slots a ≡ Some (Some d) → IsAppStarted epoch d

-- the known jobs of the numbers below n are admitted
pub record AreAdmitted (jobs : List KnownJob) (n : ℕ) (x y : AllotmentRecord) : Type 0 where
  pub records : (a : ℕ) → record_of (as_known y.table.jobs) a ≡ elim (nat_lt a n) [ true ↦ record_of jobs a | false ↦ None ]
  pub stands : (c : ClusterRecord) (M : Master) → Allots x c M → M.jobs ≡ [] → Allots y c (record M { jobs = as_known y.table.jobs })
  pub waits : AllWait y
  pub rest : y ≡ record x { table = record x.table { jobs = y.table.jobs }; placer = y.placer }
  pub turns : y.placer.seen.turns ≡ x.placer.seen.turns

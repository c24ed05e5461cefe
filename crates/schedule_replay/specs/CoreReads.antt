-- What is read of one core: what an application holds, and what placing reads of a master.
use Rattle.std.specs.Prelude.{ℕ, Bool, cond, not, nat_lt, ◌&&◌}
use Rattle.fuxi_terms.specs.Jobs.{priority_of, size_at, most_of, group_of}
use Rattle.fuxi_terms.specs.Numbers.{has_number}
use Rattle.fuxi_terms.specs.TallyKeys.{avoid_key}
use Rattle.spec_roles.specs.Placing.{Board, placeable_in}
use Rattle.app_master.specs.AppCores.{AppCore}
use Rattle.app_master.specs.Usable.{is_named, usable_in, carried_at}
use Rattle.place_pass.specs.Placers.{asks_seen}
use Rattle.fuxi_master.specs.Cores.{CoreRecord}

-- how many grants of a unit an application holds on a machine: where its grants name the machine, their count without what was given back and is not
-- yet credited, else what is carried
abbrev pub held_now : AppCore → ℕ → ℕ → ℕ
held_now a u m = cond (is_named a.up.incoming.received m) (usable_in a.up.incoming.received a.up.outgoing.present a.up.outgoing.own u m) (carried_at a.carried u m)

-- a machine takes new grants of a unit: the core has its report, it is not banned, and the unit does not avoid it
abbrev pub may_use : CoreRecord → ℕ → ℕ → ℕ → Bool
may_use x a u m = has_number m x.reported.numbers && (not (has_number m x.known.bans) && not (nat_lt 0 (asks_seen x.allotment.placer.seen a (avoid_key u m))))

-- what placing reads of a core beside its table
abbrev pub board_of : CoreRecord → Board
board_of x = record {
  cluster = x.allotment.table.cluster;
  priorities = priority_of x.known.jobs;
  sizes = size_at x.known.jobs;
  mosts = most_of x.known.jobs;
  groups = group_of x.known.jobs;
  asks = asks_seen x.allotment.placer.seen;
  may_use = may_use x;
  serving = x.serving;
}

-- a core may grant a unit once more on a machine: it serves, the unit waits and its group's limit allows it, the machine takes it, it holds fewer
-- there than its greatest number, and there is room
abbrev pub is_placeable : CoreRecord → ℕ → ℕ → ℕ → Bool
is_placeable x a u m = placeable_in (board_of x) x.allotment.table.entries a u m

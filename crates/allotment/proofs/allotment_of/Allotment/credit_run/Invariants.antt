use Rattle.std.proofs.Common.{◌≡◌, ◌<◌, length, take, get_or}
use Rattle.fuxi_terms.specs.Jobs.{unit_count}
use Rattle.fuxi_terms.specs.TallyKeys.{credited_key, key}
use Rattle.grant_table.specs.GrantTables.{as_known}
use Rattle.place_pass.specs.DemandWalks.{IsPast}
use Rattle.allotment.specs.Allotted.{CreditsBack, OnlyTakes, newly_credited}
use Rattle.allotment.proofs.allotment_of.Allotment.credit_run.Given as goal

abbrev pub invariant-loop-index : goal.invariant-loop-index
invariant-loop-index l = record {
  credits : CreditsBack l.app.0 (take l.index l.backs) l.credited l.fn.self l.self;
  takes : OnlyTakes l.fn.self l.self;
  numbers : l.numbers.items ≡ newly_credited l.fn.self.table.cluster (unit_count (as_known l.fn.self.table.jobs) l.app.0) l.credited (take l.index l.backs);
  past : l.index < length l.backs → IsPast l.credited l.place (credited_key (get_or l.backs l.index (key 0 0 0, 0)).0.unit (get_or l.backs l.index (key 0 0 0, 0)).0.number);
}

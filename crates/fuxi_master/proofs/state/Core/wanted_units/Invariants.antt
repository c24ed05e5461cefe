use Rattle.std.proofs.Common.{◌≡◌, map, filter}
use Rattle.fuxi_terms.specs.Lists.{below}
use Rattle.schedule_unit.specs.declared.party.UnitNo.{UnitNo}
use Rattle.fuxi_master.specs.Seen.{core_of}
use Rattle.fuxi_master.specs.VoteCounts.{is_asked}
use Rattle.fuxi_master.proofs.state.Core.wanted_units.Given as goal

abbrev pub invariant-loop-number : goal.invariant-loop-number
invariant-loop-number l = map (λ (u : UnitNo). u.0) l.found.items ≡ filter (is_asked (core_of l.self) l.app.0) (below l.number)

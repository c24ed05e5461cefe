use Rattle.std.proofs.Common.{nat_lt}
use Rattle.std.specs.Prelude.{◌&&◌}
use Rattle.fuxi_master.specs.Seen.{core_of}
use Rattle.fuxi_master.specs.VoteCounts.{AddsVotes, all_avoid}
use Rattle.fuxi_master.proofs.state.Core.mark.Given as goal

abbrev pub invariant-loop-number : goal.invariant-loop-number
invariant-loop-number l = AddsVotes (λ m. nat_lt m l.number && all_avoid (core_of l.self) l.app.0 l.units m) l.fn.votes l.votes

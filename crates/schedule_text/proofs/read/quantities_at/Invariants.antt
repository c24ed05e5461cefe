use Rattle.std.proofs.Common.{◌≡◌, ◌+◌, Ok, map, drop, ◌++◌}
use Rattle.fuxi_terms.specs.Counts.{then_do}
use Rattle.schedule_text.specs.ReadEvents.{counts_at}
use Rattle.schedule_text.proofs.read.quantities_at.Given as goal

abbrev pub invariant-loop-index : goal.invariant-loop-index
invariant-loop-index l = counts_at l.first (map (λ w. w.now) l.words) ≡ then_do (counts_at (l.first + l.index) (drop l.index (map (λ w. w.now) l.words))) (λ ns. Ok (l.quantities ++ ns))

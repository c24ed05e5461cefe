use Rattle.std.proofs.Common.{◌≡◌, map, take}
use Rattle.ledger_updates.specs.AllShown.{spot_of}
use Rattle.ledger_updates.specs.OneJob.{counts_at, under_job}
use Rattle.ledger_updates.proofs.grants.counts_at.Given as goal

abbrev pub invariant-loop-spot : goal.invariant-loop-spot
invariant-loop-spot l = l.counts.items ≡ map under_job (counts_at l.table (map spot_of (take l.spot-index l.spots)))

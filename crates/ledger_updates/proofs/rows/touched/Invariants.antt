use Rattle.std.proofs.Common.{◌≡◌, map, take}
use Rattle.ledger_updates.specs.AllShown.{spot_of}
use Rattle.ledger_updates.specs.TouchedNumbers.{with_key, touched_in}
use Rattle.ledger_updates.proofs.rows.touched.Given as goal

abbrev pub invariant-loop-spot : goal.invariant-loop-spot
invariant-loop-spot l = map with_key l.numbers.items ≡ touched_in l.table (map spot_of (take l.spot-index l.spots))

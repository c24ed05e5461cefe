use Rattle.std.proofs.Common.{sym, subst}
use Rattle.ledger_law.specs.Places.{IsPlace}
use Rattle.ledger_law.proofs.PlacesLemmas.{count_here, count_gap}
use Rattle.ledger_law.proofs.entries.count_at.Goals as goal

pub returns-in-Ok : goal.returns-in-Ok
returns-in-Ok g c = sym (count_here g.met.K.Ord.total c.args.key.now c.args.entries.now c.in-Ok.at _ c.requires.sorted (subst (IsPlace g.K.Ord.cmp c.args.entries.now c.args.key.now) c.in-Ok.is c.requires.place))

pub returns-in-Err : goal.returns-in-Err
returns-in-Err g c = sym (count_gap g.met.K.Ord.total c.args.key.now c.args.entries.now c.in-Err.field-0 c.requires.sorted (subst (IsPlace g.K.Ord.cmp c.args.entries.now c.args.key.now) c.in-Err.is c.requires.place))

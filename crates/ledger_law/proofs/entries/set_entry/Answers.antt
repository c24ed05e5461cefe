use Rattle.std.proofs.Common.{◌≡◌, ◌<◌, sym, ◌∙◌, subst, arith}
use Rattle.ledger_law.specs.Places.{IsPlace}
use Rattle.ledger_law.proofs.PlacesLemmas.{set_here, set_gap, drop_here, drop_gap}
use Rattle.ledger_law.proofs.entries.set_entry.Goals as goal

pub returns-then-n-eq0-clause-items : goal.returns-then-n-eq0-clause-items
returns-then-n-eq0-clause-items g c =
    c.remove.ensures.items ∙ sym (drop_here g.met.K.Ord.total c.args.key c.args.n c.args.entries.now.items c.in-Ok.at c.if-n-eq0.true c.requires.sorted (subst (IsPlace g.K.Ord.cmp c.args.entries.now.items c.args.key) c.in-Ok.is c.requires.place))

pub returns-else-n-eq0-clause-items : goal.returns-else-n-eq0-clause-items
returns-else-n-eq0-clause-items g c =
    let more : 0 < c.args.n = omega arith in
    sym (set_here g.met.K.Ord.total c.args.key g.met.K.EntryKey.exact c.args.n c.args.entries.now.items c.in-Ok.at more c.requires.sorted (subst (IsPlace g.K.Ord.cmp c.args.entries.now.items c.args.key) c.in-Ok.is c.requires.place))

pub returns-then-n-gt0-clause-items : goal.returns-then-n-gt0-clause-items
returns-then-n-gt0-clause-items g c =
    c.put_in.ensures.items ∙ sym (set_gap g.met.K.Ord.total c.args.key c.args.n c.args.entries.now.items c.in-Err.at c.if-n-gt0.true (subst (IsPlace g.K.Ord.cmp c.args.entries.now.items c.args.key) c.in-Err.is c.requires.place))

pub returns-else-n-gt0-clause-items : goal.returns-else-n-gt0-clause-items
returns-else-n-gt0-clause-items g c =
    let none : c.args.n ≡ 0 = omega arith in
    sym (drop_gap g.met.K.Ord.total c.args.key c.args.n c.args.entries.now.items c.in-Err.at none c.requires.sorted (subst (IsPlace g.K.Ord.cmp c.args.entries.now.items c.args.key) c.in-Err.is c.requires.place))

use Rattle.std.proofs.Common.{◌<◌, ◌^◌, length, sym, subst}
use Rattle.ledger_law.specs.OneForm.{few_counts}
use Rattle.ledger_law.proofs.tally.TallyLedger.write_full.Goals as goal

pub write_headed-requires-clause-few : goal.write_headed-requires-clause-few
write_headed-requires-clause-few g c = subst (λ es. length es < 2 ^ 32) (sym c.deref.ensures.value) (few_counts g.S.Shape.greatest_of g.met.S.Shape.bounded g.met.S.Shape.writable c.self.inside.entries.items c.self.invariant)

pub returns-clause-ok : goal.returns-clause-ok
returns-clause-ok g c = rw (← c.self.view_is, ← c.deref.ensures.value) c.write_headed.ensures.ok

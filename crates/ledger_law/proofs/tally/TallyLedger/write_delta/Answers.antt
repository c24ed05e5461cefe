use Rattle.std.proofs.Common.{◌<◌, ◌^◌, length, sym, subst, ap, ◌∙◌}
use Rattle.ledger_law.specs.OneForm.{few_changes}
use Rattle.ledger_law.proofs.tally.TallyLedger.write_delta.Goals as goal

pub write_change-requires-clause-few : goal.write_change-requires-clause-few
write_change-requires-clause-few g c = subst (λ cs. length cs < 2 ^ 32) (sym (c.deref.ensures ∙ ap (λ v. v.entries) c.change.view_is)) (few_changes g.S.Shape.greatest_of g.met.S.Shape.bounded g.met.S.Shape.writable c.args.change.now.entries c.requires.entries)

pub returns-clause-ok : goal.returns-clause-ok
returns-clause-ok g c = rw (← c.change.view_is, ← c.deref.ensures) c.write_change.ensures.ok

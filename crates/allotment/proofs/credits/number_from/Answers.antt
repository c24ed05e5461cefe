use Rattle.std.proofs.Common.{◌∙◌, sym}
use Rattle.fuxi_terms.specs.TallyKeys.{key}
use Rattle.allotment.proofs.IsPastLemmas.{passes, found_later}
use Rattle.allotment.proofs.credits.number_from.Goals as goal

pub loop-place-preserved : goal.loop-place-preserved
loop-place-preserved c = passes c.args.entries.now c.loop-place.place c.args.sought.now (key 0 0 0, 0) c.loop-place-test.true (sym c.order.ensures ∙ c.in-Less.is) c.loop-place.invariant

pub returns-in-Greater-clause-number : goal.returns-in-Greater-clause-number
returns-in-Greater-clause-number c = found_later c.args.entries.now c.loop-place.place c.args.sought.now (key 0 0 0, 0) c.requires.sorted c.loop-place-test.true (sym c.order.ensures ∙ c.in-Greater.is) c.loop-place.invariant

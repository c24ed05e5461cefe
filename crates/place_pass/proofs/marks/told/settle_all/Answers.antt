use Rattle.std.proofs.Common.{◌≤◌, sym, subst, inl, inr, arith}
use Rattle.place_pass.specs.Bounds.{MarkRecord, mark_at}
use Rattle.place_pass.proofs.PassedMachines.{raised_settled}
use Rattle.place_pass.proofs.marks.told.settle_all.Goals as goal

pub returns-clause-settled : goal.returns-clause-settled
returns-clause-settled c m lt =
    let number = c.len-machines.ensures.number in
    let few = c.len-machines.ensures.few in
    raised_settled c.number_of_none.result c.args.turns m (mark_at c.args.marks.now m) (mark_at c.bound_from.new.self m) c.number_of_none.ensures (omega (arith, lt, number, few)) (c.bound_from.ensures.raised m (omega arith) lt)

pub returns-clause-until : goal.returns-clause-until
returns-clause-until c m = elim (c.bound_from.ensures.others m) [
  | inl e ↦ inl e
  | inr e ↦ inr (subst (λ (k : MarkRecord). k.until ≤ c.args.turns) (sym e) (omega arith))
]

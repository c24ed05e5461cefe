use Rattle.std.proofs.Common.{refl, inl, inr}
use Rattle.place_pass.specs.Bounds.{mark_at}
use Rattle.place_pass.proofs.PackedRanksLemmas.{above_less}
use Rattle.place_pass.proofs.marks.Marks.bound_one.Goals as goal

pub returns-then-key-limit-clause-here : goal.returns-then-key-limit-clause-here
returns-then-key-limit-clause-here c =
    let m = c.args.machine in
    let k = mark_at c.args.self.now m in
    record { is = inr (refl, λ some. above_less k c.args.turns m c.key-key.result c.args.limit c.if-key-limit.true (c.key-key.ensures some)) }

pub returns-clause-here : goal.returns-clause-here
returns-clause-here c = record { is = inl c.set_bound.ensures.here }

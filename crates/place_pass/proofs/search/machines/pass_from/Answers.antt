use Rattle.std.proofs.Common.{sym, subst, inl, inr}
use Rattle.place_pass.specs.Bounds.{mark_at}
use Rattle.place_pass.specs.Scenes.{IsMarked}
use Rattle.place_pass.specs.Candidates.{limit_in, IsRaised}
use Rattle.std.specs.Option.{option_map}
use Rattle.place_pass.specs.Bounds.{rank_of}
use Rattle.place_pass.proofs.PassedMachines.{raised_above, earliest_marked}
use Rattle.place_pass.proofs.search.machines.pass_from.Goals as goal

pub returns-clause-marks : goal.returns-clause-marks
returns-clause-marks c m =
    let s = c.args.input.now in
    let k = mark_at c.args.marks.now m in
    elim (c.bound_from.ensures.others m) as (λ _. IsMarked s m (mark_at c.bound_from.new.self m)) [
      | inl e ↦ subst (IsMarked s m) (sym e) (c.requires.old m)
      | inr e ↦ subst (IsMarked s m) (sym e) (earliest_marked s m (limit_in c.args.best.now) c.args.from c.args.earliest k c.requires.earliest c.requires.later)
    ]

pub returns-clause-passed : goal.returns-clause-passed
returns-clause-passed c m ge lt some =
    let s = c.args.input.now in
    let before = mark_at c.args.marks.now m in
    let after = mark_at c.bound_from.new.self m in
    raised_above c.args.earliest (limit_in c.args.best.now) s.turns c.args.from m before after ge c.requires.small c.requires.later
    (subst (λ n. IsRaised n (option_map rank_of c.args.earliest) s.turns m before after) c.number_of_best.ensures (c.bound_from.ensures.raised m ge lt)) some

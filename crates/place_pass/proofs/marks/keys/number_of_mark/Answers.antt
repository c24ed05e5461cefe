use Rattle.std.proofs.Common.{◌≡◌, true, false, cond, nat_lt, Some, sym, ◌∙◌, ap, arith}
use Rattle.std.specs.Prelude.{is_some}
use Rattle.std.specs.Option.{option_map}
use Rattle.std.proofs.lemmas.Bool.Decides.{nat_tests}
use Rattle.place_pass.specs.Bounds.{rank_of, mark_of, zero_rank}
use Rattle.place_pass.proofs.PackedRanksLemmas.{looked, least_none, least_some}
use Rattle.place_pass.proofs.marks.keys.number_of_mark.Goals as goal

-- nothing is placeable, whatever begins to wait
pub returns-then-mark-clause-never : goal.returns-then-mark-clause-never
returns-then-mark-clause-never c turns is small =
    let until = c.if-mark.true in
    let t : nat_lt c.args.mark.now.until turns ≡ false = grind (arith, nat_tests, until, small) in
    ap (λ b. is_some (cond b (Some zero_rank) (option_map rank_of c.args.mark.now.bound))) t ∙ ap is_some (ap (option_map rank_of) c.in_default.is)

pub returns-then-mark-clause-above : goal.returns-then-mark-clause-above
returns-then-mark-clause-above c turns le some = let f : true ≡ false = sym some ∙ returns-then-mark-clause-never c turns c.number_of_never.ensures (omega (arith, le)) in cc

pub returns-then-mark-until-clause-above : goal.returns-then-mark-until-clause-above
returns-then-mark-until-clause-above c turns le some = least_none (mark_of c.args.mark.now) turns c.args.machine (ap (option_map rank_of) c.in_default.is) some

pub returns-then-mark-until-2-clause-above : goal.returns-then-mark-until-2-clause-above
returns-then-mark-until-2-clause-above c turns le some = least_some (mark_of c.args.mark.now) c.in-Some.rank turns c.args.machine (ap (option_map rank_of) c.in-Some.is) c.number_of-number.ensures.small some

pub returns-clause-above : goal.returns-clause-above
returns-clause-above c turns le some =
    let until = c.if-mark-until-2.false in
    let t : nat_lt c.args.mark.now.until turns ≡ false = grind (arith, nat_tests, until, le) in
    let is = c.number_of-number.ensures.number in
    looked (mark_of c.args.mark.now) c.in-Some.rank turns c.args.machine c.number_of-number.result t (ap (option_map rank_of) c.in-Some.is) c.number_of-number.ensures.small (omega (arith, is))

pub returns-clause-never : goal.returns-clause-never
returns-clause-never c turns is small =
    let number = c.number_of-number.ensures.number in
    let a = c.number_of-number.ensures.small.late in
    let b = c.number_of-number.ensures.small.level in
    let d = c.number_of-number.ensures.small.turn in
    absurd (omega (arith, is, number, a, b, d))

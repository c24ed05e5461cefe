use Rattle.std.proofs.Common.{◌≤◌, length, get_or, take, sym, subst, arith}
use Rattle.std.specs.List.{AllByRecursion}
use Rattle.std.proofs.lemmas.List.{take_all}
use Rattle.std.proofs.lemmas.Option.{slice_get-get_or}
use Rattle.fuxi_terms.proofs.Lists.{all_push, take_last}
use Rattle.preempt.specs.Shelves.{HasNothingOn}
use Rattle.preempt.proofs.Served.{no_row}
use Rattle.preempt.proofs.snapshot.has_any_on.Goals as goal

pub loop-at-preserved : goal.loop-at-preserved
loop-at-preserved c =
    let rows = c.args.rows.now in
    let k = c.loop-at.at in
    let row = get_or rows k no_row in
    subst (AllByRecursion (HasNothingOn c.args.machine)) (sym (take_last rows k row (slice_get-get_or rows k no_row c.loop-at-test.true)))
    (all_push (HasNothingOn c.args.machine) (take k rows) row c.loop-at.invariant c.if-count-eq0.true)

pub returns : goal.returns
returns c = λ _.
    let rows = c.args.rows.now in
    let past : length rows ≤ c.loop-at.at = let a = c.loop-at-test.false in omega (arith, a) in
    subst (AllByRecursion (HasNothingOn c.args.machine)) (take_all c.loop-at.at rows past) c.loop-at.invariant

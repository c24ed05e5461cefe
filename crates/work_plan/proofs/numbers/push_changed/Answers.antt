use Rattle.std.proofs.Common.{◌++◌, None, Some, sym, ◌∙◌, ap, arith, append-nil, append_assoc}
use Rattle.work_plan.specs.NameChanges.{changed, name_of}
use Rattle.work_plan.proofs.NamesThatChange.{changed_more, none_changed}
use Rattle.work_plan.proofs.numbers.push_changed.Goals as goal

pub loop-number-init : goal.loop-number-init
loop-number-init c = sym (ap (λ xs. c.args.numbers.now.items ++ xs) (none_changed c.args.unit.0 c.args.before.now c.args.after.now) ∙ append-nil c.args.numbers.now.items)

pub loop-number-preserved-in_default : goal.loop-number-preserved-in_default
loop-number-preserved-in_default c =
    let more = changed_more c.args.unit.0 c.args.before.now c.args.after.now c.loop-number.number None (sym c.in_default.is ∙ c.turned.ensures) in
    c.loop-number.invariant ∙ ap (λ xs. c.args.numbers.now.items ++ xs) (sym (more ∙ append-nil (changed c.args.unit.0 c.args.before.now c.args.after.now c.loop-number.number)))

pub loop-number-preserved : goal.loop-number-preserved
loop-number-preserved c =
    let n = c.loop-number.number in
    let front = changed c.args.unit.0 c.args.before.now c.args.after.now n in
    let more = changed_more c.args.unit.0 c.args.before.now c.args.after.now n (Some c.in-Some.named) (sym c.in-Some.is ∙ c.turned.ensures) in
    c.in_ok-push.ensures.items ∙ ap (λ xs. xs ++ name_of c.args.unit.0 n (Some c.in-Some.named)) c.loop-number.invariant ∙ append_assoc c.args.numbers.now.items front (name_of c.args.unit.0 n (Some c.in-Some.named)) ∙ ap (λ xs. c.args.numbers.now.items ++ xs) (sym more)

pub returns : goal.returns
returns c = c.loop-number.invariant ∙ ap (λ n. c.args.numbers.now.items ++ changed c.args.unit.0 c.args.before.now c.args.after.now n) (omega (arith, c.loop-number-test.false, c.loop-number.auto.number-end))

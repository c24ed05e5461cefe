use Rattle.std.proofs.Common.{◌≡◌, ◌+◌, ◌-◌, true, false, cond, nat_eq, [], ◌∷◌, ◌++◌, length, take, get_or, sym, ◌∙◌, ap, append_assoc, arith}
use Rattle.std.proofs.lemmas.Bool.Decides.{nat_tests}
use Rattle.std.specs.Global.{Vec}
use Rattle.preempt.specs.declared.entry.Entry.{Entry}
use Rattle.preempt.specs.Walks.{backward, of_priority}
use Rattle.preempt.proofs.UnitSteps.{backward_step}
use Rattle.preempt.proofs.walk.push_priority.Goals as goal
use Rattle.preempt.proofs.walk.push_priority.Goals.{then-e-priority+in_ok-push, else-e-priority}

pub loop-back-preserved : goal.loop-back-preserved
loop-back-preserved c =
    let units = c.args.units.now in
    let back = c.loop-back.back in
    let no_entry : Entry = record { app = record { 0 = 0 }; unit = record { 0 = 0 }; group = 0; priority = 0; count = 0; size = record { ref_ptr = (0, 0); now = record { q = [] } } } in
    let e = get_or units (length units - 1 - back) no_entry in
    let rest = backward (of_priority c.args.priority) (take (length units - (back + 1)) units) in
    let step = backward_step (of_priority c.args.priority) units back no_entry c.loop-back-test.true in
    elim c.if-e-priority.branch [
      | then-e-priority+in_ok-push w ↦
          let is = w.if-e-priority.true in
          let t : nat_eq e.priority c.args.priority ≡ true = grind (arith, nat_tests, is) in
          ap (λ (xs : Vec Entry). xs.items ++ rest) w.sorted-is ∙ ap (λ xs. xs ++ rest) w.in_ok-push.ensures.items
          ∙ append_assoc c.loop-back.sorted.items (e ∷ []) rest
          ∙ ap (λ b. c.loop-back.sorted.items ++ (cond b (e ∷ []) [] ++ rest)) (sym t)
          ∙ ap (λ xs. c.loop-back.sorted.items ++ xs) (sym step) ∙ c.loop-back.invariant
      | else-e-priority w ↦
          let is = w.if-e-priority.false in
          let f : nat_eq e.priority c.args.priority ≡ false = grind (arith, nat_tests, is) in
          ap (λ (xs : Vec Entry). xs.items ++ rest) w.sorted-is
          ∙ ap (λ b. c.loop-back.sorted.items ++ (cond b (e ∷ []) [] ++ rest)) (sym f)
          ∙ ap (λ xs. c.loop-back.sorted.items ++ xs) (sym step) ∙ c.loop-back.invariant
    ]

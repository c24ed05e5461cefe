use Rattle.std.proofs.Common.{ℕ, false, cond, nat_eq, get_or, ◌∙◌, ap, arith}
use Rattle.place_pass.specs.Bounds.{MarkRecord, mark_at, cleared_mark}
use Rattle.place_pass.proofs.NotedMarksLemmas.{done_next, left_next}
use Rattle.place_pass.proofs.SearchCountsLemmas.{none_noted}
use Rattle.place_pass.proofs.marks.told.clear_all.Goals as goal

pub loop-number-preserved : goal.loop-number-preserved
loop-number-preserved c =
    let i = c.loop-number.invariant in
    let n = c.loop-number.number in
    let is = λ (m : ℕ). c.put.ensures.marks m ∙ ap (λ (k : MarkRecord). cond (nat_eq n m) k (mark_at c.loop-number.marks m)) (c.clear.ensures ∙ ap cleared_mark c.at.ensures) in
    record {
      long = c.put.ensures.long ∙ i.long;
      done = done_next (λ _. cleared_mark) c.args.marks.now c.loop-number.marks c.put.new.self n is i.left i.done;
      left = left_next (λ _. cleared_mark) c.args.marks.now c.loop-number.marks c.put.new.self n is i.left;
    }

pub note_none-requires : goal.note_none-requires
note_none-requires c m g lt =
    let i = c.loop-number.invariant in
    let long = i.long in
    let end = c.len-number-end.ensures.number in
    let test = c.loop-number-test.false in
    ap (λ (k : MarkRecord). get_or k.groups g false) (i.done m (omega (arith, lt, long, end, test))) ∙ none_noted g

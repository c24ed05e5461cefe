use Rattle.std.proofs.Common.{◌∙◌}
use Rattle.place_pass.specs.Bounds.{limited_mark}
use Rattle.place_pass.proofs.NotedMarksLemmas.{done_next, left_next}
use Rattle.place_pass.proofs.marks.told.limit_all.Goals as goal

pub loop-number-preserved : goal.loop-number-preserved
loop-number-preserved c =
    let i = c.loop-number.invariant in
    let n = c.loop-number.number in
    let is = c.limit.ensures.marks in
    record {
      long = c.limit.ensures.long ∙ i.long;
      done = done_next (λ _. limited_mark c.args.turns) c.args.marks.now c.loop-number.marks c.limit.new.self n is i.left i.done;
      left = left_next (λ _. limited_mark c.args.turns) c.args.marks.now c.loop-number.marks c.limit.new.self n is i.left;
    }

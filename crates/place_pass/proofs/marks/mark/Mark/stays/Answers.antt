use Rattle.std.proofs.Common.{◌≡◌, Bool, true, false, cond, not, refl, subst, get_or}
use Rattle.std.specs.Prelude.{◌||◌}
use Rattle.place_pass.specs.Bounds.{MarkRecord, mark_of, reset_mark, lowered_mark}
use Rattle.place_pass.proofs.marks.mark.Mark.stays.Goals as goal

same : (here nearer noted : Bool) (k : MarkRecord) → (here || nearer) ≡ false → not noted ≡ true → cond here (reset_mark k.until) (cond noted (reset_mark k.until) (cond nearer (lowered_mark k) k)) ≡ k
same true nearer noted k e f = cc
same false true noted k e f = cc
same false false true k e f = cc
same false false false k e f = refl

pub returns : goal.returns
returns c e =
    let noted = c.notes.ensures in
    same c.args.here c.args.nearer (get_or c.args.self.now.groups c.args.group.0 false) (mark_of c.args.self.now) c.if-here-nearer.false (subst (λ b. not b ≡ true) noted e)

use Rattle.std.proofs.Common.{◌≡◌, ℕ, cond, nat_lt, false, ap, arith}
use Rattle.std.proofs.lemmas.Bool.Decides.{nat_tests}
use Rattle.place_pass.specs.Bounds.{MarkRecord, mark_of}
use Rattle.place_pass.proofs.marks.mark.Mark.is_within.Goals as goal

pub returns : goal.returns
returns c e =
    let k = mark_of c.args.self.now in
    let with : ℕ → MarkRecord = λ n. record { bound = k.bound; until = n; groups = k.groups } in
    let t : nat_lt c.args.turns k.until ≡ false = grind (arith, nat_tests, e) in
    ap with (ap (λ b. cond b c.args.turns k.until) t)

use Rattle.std.proofs.Common.{◌≡◌, ◌<◌, true, List, length, get_or, subst, arith}
use Rattle.std.specs.Prelude.{is_some}
use Rattle.place_pass.specs.Bounds.{MarkRecord, mark_at, key_of}
use Rattle.place_pass.specs.PackedRanks.{IsAbove}
use Rattle.place_pass.proofs.PackedRanksLemmas.{least_above}
use Rattle.place_pass.proofs.marks.Marks.key.Goals as goal

pub returns-then-self-turns : goal.returns-then-self-turns
returns-then-self-turns c some =
    let m = c.args.machine in
    let number = get_or c.self.inside.keys m 0 in
    least_above (mark_at c.args.self.now m) c.args.turns m number
    (λ e. subst (λ (xs : List MarkRecord). m < length xs → is_some (key_of (mark_at xs m) 0) ≡ true → IsAbove (mark_at xs m) 0 m number) c.self.view_is (λ lt t. c.self.invariant.0.above m 0 lt (omega arith) t) c.requires e) some

use Rattle.std.proofs.Common.{◌≡◌, true, List, get_or, sym, subst, arith}
use Rattle.std.specs.Prelude.{is_some}
use Rattle.std.proofs.lemmas.List.{length-map}
use Rattle.place_pass.specs.Bounds.{MarkRecord, mark_of, mark_at, key_of}
use Rattle.place_pass.specs.PackedRanks.{IsAbove}
use Rattle.place_pass.proofs.PackedRanksLemmas.{least_above}
use Rattle.place_pass.proofs.marks.Marks.next.Goals as goal

pub returns-then-limit-eq0-clause-passed : goal.returns-then-limit-eq0-clause-passed
returns-then-limit-eq0-clause-passed c m ge lt some =
    let number = get_or c.self.inside.keys m 0 in
    let long = length-map c.self.inside.marks.items mark_of in
    let len = c.len.ensures in
    let zero = c.if-limit-eq0.true in
    let marks : List MarkRecord = c.args.self.now in
    let above = subst (λ (xs : List MarkRecord). is_some (key_of (mark_at xs m) 0) ≡ true → IsAbove (mark_at xs m) 0 m number) c.self.view_is (λ t. c.self.invariant.0.above m 0 (omega (arith, lt, len, long)) (omega arith) t) in
    subst (IsAbove (mark_at marks m) c.args.turns m) (sym zero) (least_above (mark_at marks m) c.args.turns m number above some)

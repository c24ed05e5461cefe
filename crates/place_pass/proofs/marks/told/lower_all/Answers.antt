use Rattle.std.proofs.Common.{◌≡◌, ℕ, ◌<◌, ◌≤◌, true, List, length, None, sym, ◌∙◌, subst, arith}
use Rattle.std.specs.Prelude.{is_some}
use Rattle.place_pass.specs.Bounds.{MarkRecord, mark_at, key_of, lowered_mark}
use Rattle.place_pass.specs.PackedRanks.{no_rank, IsAbove}
use Rattle.place_pass.proofs.PackedRanksLemmas.{none_above}
use Rattle.place_pass.proofs.NotedMarksLemmas.{done_next, left_next, lowered_passed}
use Rattle.place_pass.proofs.marks.told.lower_all.Goals as goal

passed : (marks : List MarkRecord) (number from to : ℕ) → number ≡ no_rank → to ≤ 256 → ((m : ℕ) → from ≤ m → m < to → is_some (key_of (mark_at marks m) 0) ≡ true → IsAbove (mark_at marks m) 0 m number)
    → (m : ℕ) → from ≤ m → m < to → key_of (mark_at marks m) 0 ≡ None
passed marks number from to all few h m ge lt = none_above (mark_at marks m) 0 m number all (omega (arith, lt, few)) (h m ge lt)

pub loop-at-preserved : goal.loop-at-preserved
loop-at-preserved c =
    let i = c.loop-at.invariant in
    let first = c.raise.new.self in
    let before = c.loop-at.marks in
    let n = c.next-number.result in
    let least = c.next-number.ensures.least in
    let is = c.lower.ensures.marks in
    let left : (m : ℕ) → n ≤ m → mark_at before m ≡ mark_at first m = λ m le. i.left m (omega (arith, least, le)) in
    record {
      inside = let lt = c.if-number-len.false in let long = c.lower.ensures.long in let number = c.len-in-loop-at.ensures.number in omega (arith, lt, long, number);
      long = c.lower.ensures.long ∙ i.long;
      done = done_next (λ _. lowered_mark) first before c.lower.new.self n is left (lowered_passed first before c.loop-at.at n i.done i.left (passed c.loop-at.marks c.number_of_none.result c.loop-at.at n c.number_of_none.ensures (let inside = c.next-number.ensures.inside in let few = c.next-number.ensures.few in omega (arith, inside, few)) c.next-number.ensures.passed));
      left = left_next (λ _. lowered_mark) first before c.lower.new.self n is left;
    }

pub returns-then-number-len-clause-marks : goal.returns-then-number-len-clause-marks
returns-then-number-len-clause-marks c m lt =
    let i = c.loop-at.invariant in
    let ge = c.if-number-len.true in
    let number = c.len-in-loop-at.ensures.number in
    let long = i.long in
    let inside : m < length c.raise.new.self = subst (λ (xs : List MarkRecord). m < length xs) (sym c.raise.ensures) lt in
    subst (λ (xs : List MarkRecord). mark_at c.loop-at.marks m ≡ lowered_mark (mark_at xs m)) c.raise.ensures
    (lowered_passed c.raise.new.self c.loop-at.marks c.loop-at.at c.next-number.result i.done i.left
    (passed c.loop-at.marks c.number_of_none.result c.loop-at.at c.next-number.result c.number_of_none.ensures (let inside = c.next-number.ensures.inside in let few = c.next-number.ensures.few in omega (arith, inside, few)) c.next-number.ensures.passed) m (omega (arith, inside, ge, number, long)))

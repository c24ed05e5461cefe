use Rattle.std.proofs.Common.{◌≡◌, ℕ, ◌+◌, ◌≤◌, false, cond, not, nat_eq, None, length, refl, sym, ◌∙◌, ap, subst, arith, add-one, inl, inr}
use Rattle.std.specs.Prelude.{◌&&◌}
use Rattle.std.proofs.lemmas.Bool.{cases_lt}
use Rattle.std.proofs.lemmas.Bool.Decides.{nat_tests}
use Rattle.place_pass.specs.Bounds.{MarkRecord, mark_at, rank_on}
use Rattle.place_pass.specs.SearchCounts.{is_unsettled_by, count_below}
use Rattle.place_pass.specs.Scenes.{board_in, IsLeastOn, IsSettledBy}
use Rattle.place_pass.specs.Candidates.{turn_in}
use Rattle.place_pass.proofs.PassedMachines.{is_other, passed_least, passed_settled, later_some}
use Rattle.place_pass.proofs.SearchCountsLemmas.{count_more}
use Rattle.place_pass.proofs.search.machines.best_of_others.Goals as goal

pub returns-then-at-len-clause-least : goal.returns-then-at-len-clause-least
returns-then-at-len-clause-least g c m lt =
    let inside = c.next_other-at.ensures.inside in
    let all = c.next_other-at.ensures.few in
    let number = c.len.ensures.number in
    let end = c.if-at-len.true in
    let marked = c.requires.marked in
    passed_least c.args.input.now c.args.start.0 0 c.next_other-at.result c.args.marks.now c.args.best.now c.requires.old (omega (arith, inside, all)) c.next_other-at.ensures.passed c.requires.ready c.requires.seen (λ n less. absurd (omega (arith, less))) m (omega (arith, lt, number, end, marked))

pub loop-at-init : goal.loop-at-init
loop-at-init g c =
    let s = c.args.input.now in
    let marks = c.args.marks.now in
    let at = c.next_other-at.result in
    let passed = c.next_other-at.ensures.passed in
    let inside = c.next_other-at.ensures.inside in
    let all = c.next_other-at.ensures.few in
    let few : at ≤ 256 = omega (arith, inside, all) in
    record {
      inside = c.next_other-at.ensures.inside;
      other = c.next_other-at.ensures.other;
      least = passed_least s c.args.start.0 0 at marks c.args.best.now c.requires.old few passed c.requires.ready c.requires.seen (λ m lt. absurd (omega (arith, lt)));
      seen = c.requires.seen;
      found = λ h. h;
      marked = refl;
      marks = c.requires.old;
      left = λ m _. refl;
      count = omega arith;
      settled = λ e. passed_settled s c.args.start.0 0 at marks c.args.best.now c.requires.old few passed e (c.requires.settled e) (λ m lt. absurd (omega (arith, lt)));
      first = c.requires.settled;
    }

pub returns-then-is_later-clause-least : goal.returns-then-is_later-clause-least
returns-then-is_later-clause-least g c m lt =
    let i = c.loop-at.invariant in
    let s = c.args.input.now in
    let marks = c.pass_from.new.marks in
    let test = c.loop-at-test.true in
    let number = c.len.ensures.number in
    let all = c.len.ensures.few in
    let marked = i.marked in
    let origin = c.requires.marked in
    passed_least s c.args.start.0 c.loop-at.at (length c.loop-at.marks) marks c.loop-at.best c.pass_from.ensures.marks (omega (arith, number, all, marked)) (λ m ge lt _ some. c.pass_from.ensures.passed m ge lt some) c.requires.ready i.seen i.least m (omega (arith, lt, marked, origin))

pub returns-then-is_later-clause-count : goal.returns-then-is_later-clause-count
returns-then-is_later-clause-count g c =
    let i = c.loop-at.invariant in
    let k = i.count in
    let inside = i.inside in
    let marked = i.marked in
    let origin = c.requires.marked in
    let more = count_more (is_other c.args.input.now c.args.start.0 c.args.marks.now) c.loop-at.at (length c.args.input.now.table.now.cluster.machines) (omega (arith, inside, marked, origin)) in
    omega (arith, k, more)

pub returns-then-is_later-clause-settled : goal.returns-then-is_later-clause-settled
returns-then-is_later-clause-settled g c none =
    let i = c.loop-at.invariant in
    let number = c.len.ensures.number in
    let all = c.len.ensures.few in
    let marked = i.marked in
    let inside = i.inside in
    absurd (later_some c.earliest-earliest.result c.loop-at.best c.loop-at.at (omega (arith, inside, marked, number, all)) c.is_later.ensures.small (c.is_later.ensures.later c.if-is_later.true) none)

pub loop-at-preserved : goal.loop-at-preserved
loop-at-preserved g c =
    let s = c.args.input.now in
    let i = c.loop-at.invariant in
    let n = c.loop-at.at in
    let at = c.next_other-at-in-loop-at.result in
    let start = c.args.start.0 in
    let firsts = c.args.marks.now in
    let marks = c.consider_at.new.marks in
    let best = c.consider_at.new.best in
    let looked = c.consider_at.ensures in
    let passed = c.next_other-at-in-loop-at.ensures.passed in
    let inside = c.next_other-at-in-loop-at.ensures.inside in
    let all = c.next_other-at-in-loop-at.ensures.few in
    let few : at ≤ 256 = omega (arith, inside, all) in
    let test = c.loop-at-test.true in
    let number = c.len.ensures.number in
    let apart : nat_eq n start ≡ false = i.other (omega (arith, test, number)) in
    let one : ◌≡◌ {A = ℕ} (cond (is_other s start firsts n) 1 0) (cond (is_unsettled_by s.wishes.now.opened (mark_at c.loop-at.marks n) s.turns n) 1 0) =
    ap (λ x. cond (not x && is_unsettled_by s.wishes.now.opened (mark_at firsts n) s.turns n) 1 0) apart ∙ ap (λ (k : MarkRecord). cond (is_unsettled_by s.wishes.now.opened k s.turns n) 1 0) (sym (i.left n (omega arith))) in
    let left : (m : ℕ) → n + 1 ≤ m → mark_at marks m ≡ mark_at firsts m = λ m le. looked.others m (grind (arith, nat_tests, le)) ∙ i.left m (omega (arith, le)) in
    let seen : IsLeastOn s best start = record { least = λ q has p. looked.kept (rank_on (board_in s) s.table.now.entries (turn_in s.turn_of.now q) q start) (i.seen.least q has p) } in
    let first : best ≡ None → IsSettledBy s start (mark_at marks start) = λ e. subst (IsSettledBy s start) (sym (looked.others start apart)) (i.first (looked.empty e)) in
    record {
      inside = c.next_other-at-in-loop-at.ensures.inside;
      other = c.next_other-at-in-loop-at.ensures.other;
      least = passed_least s start (n + 1) at marks best looked.marks few passed c.requires.ready seen (λ m lt. elim (cases_lt m n) as (λ _. IsLeastOn s best m) [
        | inl l ↦ record { least = λ q has p. looked.kept (rank_on (board_in s) s.table.now.entries (turn_in s.turn_of.now q) q m) ((i.least m l).least q has p) }
        | inr ge ↦ subst (IsLeastOn s best) (let same : n ≡ m = omega (arith, lt, ge) in same) looked.least
      ]);
      seen = seen;
      found = λ h. looked.found (i.found h);
      marked = looked.marked ∙ i.marked;
      marks = looked.marks;
      left = λ m le. let least = c.next_other-at-in-loop-at.ensures.least in left m (omega (arith, le, least));
      count =
          let k = i.count in
          let e : count_below (is_other s start firsts) (n + 1) ≡ count_below (is_other s start firsts) n + cond (is_other s start firsts n) 1 0 = ap (count_below (is_other s start firsts)) (add-one n) in
          let more = count_more (is_other s start firsts) (n + 1) at c.next_other-at-in-loop-at.ensures.least in
          let steps = looked.count in
          omega (arith, k, e, more, steps, one);
      settled = λ e. passed_settled s start (n + 1) at marks best looked.marks few passed e (first e) (λ m lt. elim (cases_lt m n) as (λ _. IsSettledBy s m (mark_at marks m)) [
        | inl l ↦ subst (IsSettledBy s m) (sym (looked.others m (grind (arith, nat_tests, l)))) (i.settled (looked.empty e) m l)
        | inr ge ↦ subst (λ z. IsSettledBy s z (mark_at marks z)) (let same : n ≡ m = omega (arith, lt, ge) in same) (looked.settled e)
      ]);
      first = first;
    }

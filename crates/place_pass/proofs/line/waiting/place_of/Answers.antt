use Rattle.std.proofs.Common.{◌≡◌, ℕ, ◌+◌, ◌-◌, ◌/◌, ◌<◌, List, Some, slice_get, subst, arith, inl, inr}
use Rattle.std.proofs.lemmas.Bool.{cases_lt}
use Rattle.fuxi_terms.specs.Keys.{Pair}
use Rattle.place_pass.specs.Bounds.{IsRising, turn_at}
use Rattle.place_pass.proofs.FlagsTellWhoWaits.{has_at}
use Rattle.place_pass.proofs.PlacerTreesLemmas.{turn_apart}
use Rattle.place_pass.proofs.CandidatesLemmas.{index_within, place_of, same_place}
use Rattle.place_pass.proofs.WaitingLinesLemmas.{pair_is}
use Rattle.place_pass.proofs.line.waiting.place_of.Goals as goal

-- of two turns the greater stands behind
behind : (f : Pair → ℕ) (xs : List Pair) (i j : ℕ) (p q : Pair) → IsRising f xs → slice_get xs i ≡ Some p → slice_get xs j ≡ Some q → f p < f q → i < j
behind f xs i j p q rises hp hq less = elim (cases_lt i j) [
  | inl lt ↦ lt
  | inr ge ↦ elim (cases_lt j i) [
    | inl lt ↦ let l = rises.before j i q p hq hp lt in absurd (omega (arith, l, less))
    | inr le ↦ let same : i ≡ j = omega (arith, ge, le) in let l : f p < f p = subst (λ (x : Pair). f p < f x) (same_place xs i j p q same hp hq) less in absurd (omega (arith, l))
  ]
]

pub turn_at-turn-requires-clause-app : goal.turn_at-turn-requires-clause-app
turn_at-turn-requires-clause-app c = (c.inside.ensures c.args.app.0 c.args.unit.0 c.requires.there).0

pub turn_at-turn-requires-clause-unit : goal.turn_at-turn-requires-clause-unit
turn_at-turn-requires-clause-unit c = (c.inside.ensures c.args.app.0 c.args.unit.0 c.requires.there).1

pub loop-low-init : goal.loop-low-init
loop-low-init c =
    let n = c.len-high.ensures.number in
    record {
      inside = omega (arith, n);
      within = λ k e. let w = index_within c.args.line.now.pairs k (c.args.app.0, c.args.unit.0) e in (omega arith, omega (arith, w, n));
    }

pub turn_at-here-requires-clause-app : goal.turn_at-here-requires-clause-app
turn_at-here-requires-clause-app c = (c.inside.ensures c.at.result.0.0 c.at.result.1.0 (has_at c.args.line.now.pairs _ (c.at.result.0.0, c.at.result.1.0) c.at.ensures)).0

pub turn_at-here-requires-clause-unit : goal.turn_at-here-requires-clause-unit
turn_at-here-requires-clause-unit c = (c.inside.ensures c.at.result.0.0 c.at.result.1.0 (has_at c.args.line.now.pairs _ (c.at.result.0.0, c.at.result.1.0) c.at.ensures)).1

pub returns-then-here-turn : goal.returns-then-here-turn
returns-then-here-turn c =
    let line = c.args.line.now.pairs in
    let q : Pair = (c.at.result.0.0, c.at.result.1.0) in
    let f : Pair → ℕ = λ p. turn_at c.args.turn_of.now.items p.0 p.1 in
    let e = c.turn_at-here.ensures in
    let g = c.turn_at-turn.ensures in
    let alike = c.if-here-turn.true in
    let same : turn_at c.args.turn_of.now.items c.at.result.0.0 c.at.result.1.0 ≡ turn_at c.args.turn_of.now.items c.args.app.0 c.args.unit.0 = omega (arith, e, g, alike) in
    let is = pair_is q (c.args.app.0, c.args.unit.0) (turn_apart f line (c.args.app.0, c.args.unit.0) q c.requires.rises c.requires.there (has_at line _ q c.at.ensures) same) in
    subst (λ (x : Pair). slice_get line (c.loop-low.low + (c.loop-low.high - c.loop-low.low) / 2) ≡ Some x) is c.at.ensures

pub loop-low-preserved-then-here-turn-2 : goal.loop-low-preserved-then-here-turn-2
loop-low-preserved-then-here-turn-2 c =
    let line = c.args.line.now.pairs in
    let f : Pair → ℕ = λ p. turn_at c.args.turn_of.now.items p.0 p.1 in
    let e = c.turn_at-here.ensures in
    let g = c.turn_at-turn.ensures in
    let less = c.if-here-turn-2.true in
    let i = c.loop-low.invariant in
    record {
      inside = i.inside;
      within = λ k at.
          let b = behind f line (c.loop-low.low + (c.loop-low.high - c.loop-low.low) / 2) k (c.at.result.0.0, c.at.result.1.0) (c.args.app.0, c.args.unit.0) c.requires.rises c.at.ensures at (omega (arith, e, g, less)) in
          (omega (arith, b), (i.within k at).1);
    }

pub loop-low-preserved : goal.loop-low-preserved
loop-low-preserved c =
    let line = c.args.line.now.pairs in
    let f : Pair → ℕ = λ p. turn_at c.args.turn_of.now.items p.0 p.1 in
    let e = c.turn_at-here.ensures in
    let g = c.turn_at-turn.ensures in
    let other = c.if-here-turn.false in
    let more = c.if-here-turn-2.false in
    let i = c.loop-low.invariant in
    let test = c.loop-low-test.true in
    let inside = i.inside in
    record {
      inside = omega (arith, test, inside);
      within = λ k at.
          let b = behind f line k (c.loop-low.low + (c.loop-low.high - c.loop-low.low) / 2) (c.args.app.0, c.args.unit.0) (c.at.result.0.0, c.at.result.1.0) c.requires.rises at c.at.ensures (omega (arith, e, g, other, more)) in
          ((i.within k at).0, b);
    }

pub unreachable-requires : goal.unreachable-requires
unreachable-requires c =
    let place = place_of (c.args.app.0, c.args.unit.0) c.args.line.now.pairs c.requires.there in
    let w = c.loop-low.invariant.within place.place place.at in
    let low = w.0 in
    let high = w.1 in
    let end = c.loop-low-test.false in
    absurd (omega (arith, low, high, end))

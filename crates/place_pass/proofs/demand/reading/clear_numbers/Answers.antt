use Rattle.std.proofs.Common.{◌≡◌, ◌≢◌, ℕ, ◌<◌, length, length-set, set, get_or, refl, sym, ◌∙◌, subst, arith, inl, inr}
use Rattle.std.proofs.lemmas.Bool.{cases_eq}
use Rattle.std.proofs.lemmas.List.{get_or-set_same, get_or-set_other}
use Rattle.place_pass.proofs.demand.reading.clear_numbers.Goals as goal

pub returns-then-is_clear-clause-zero : goal.returns-then-is_clear-clause-zero
returns-then-is_clear-clause-zero c k ge lt = c.is_clear.ensures c.if-is_clear.true k ge lt

pub loop-place-init : goal.loop-place-init
loop-place-init c = record {
  from = omega arith;
  to = c.requires.order;
  long = refl;
  zero = λ k ge lt. absurd (omega (arith, ge, lt));
  before = λ k lt. refl;
  behind = λ k ge. refl;
}

pub loop-place-preserved : goal.loop-place-preserved
loop-place-preserved c =
    let i = c.loop-place.invariant in
    let n = c.loop-place.place in
    let items = c.loop-place.numbers in
    let new = set items n 0 in
    let from = i.from in
    let test = c.loop-place-test.true in
    let inside = c.requires.inside in
    let long = i.long in
    let lt : n < length items = omega (arith, test, inside, long) in
    let other : (k : ℕ) → k ≢ n → get_or new k 0 ≡ get_or items k 0 = λ k d. get_or-set_other items n k 0 0 d in
    record {
      from = omega (arith, from);
      to = omega (arith, test);
      long = length-set items n 0 ∙ long;
      zero = λ k ge l. elim (cases_eq k n) as (λ _. get_or new k 0 ≡ 0) [
        | inl q ↦ subst (λ j. get_or new j 0 ≡ 0) (sym q) (get_or-set_same items n 0 0 lt)
        | inr d ↦ other k d ∙ i.zero k ge (omega (arith, l, d))
      ];
      before = λ k l. other k (omega (arith, l, from)) ∙ i.before k l;
      behind = λ k l. other k (omega (arith, l)) ∙ i.behind k (omega (arith, l));
    }

pub returns-clause-zero : goal.returns-clause-zero
returns-clause-zero c k ge lt = let end = c.loop-place-test.false in c.loop-place.invariant.zero k ge (omega (arith, lt, end))

pub returns-clause-behind : goal.returns-clause-behind
returns-clause-behind c k ge = let to = c.loop-place.invariant.to in c.loop-place.invariant.behind k (omega (arith, ge, to))

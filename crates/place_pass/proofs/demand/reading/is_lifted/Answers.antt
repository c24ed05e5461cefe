use Rattle.std.proofs.Common.{◌≡◌, ℕ, Bool, true, false, not, refl, sym, ◌∙◌, ap, arith, inl, inr}
use Rattle.std.specs.Prelude.{◌&&◌}
use Rattle.std.proofs.lemmas.Bool.{cases_eq, cases_lt}
use Rattle.std.proofs.lemmas.List.Folds.{list_any_at}
use Rattle.fuxi_terms.specs.Lists.{below}
use Rattle.fuxi_terms.proofs.Lists.{length-below}
use Rattle.locality_tree.specs.PlaceSets.{in_set}
use Rattle.place_pass.proofs.Places.{get_or-below}
use Rattle.place_pass.proofs.IdleKept.{any_none}
use Rattle.place_pass.proofs.demand.reading.is_lifted.Goals as goal

not_before : (b n : Bool) → b ≡ false → (b && not n) ≡ false
not_before b n e = ap (λ x. x && not n) e

both : (b n : Bool) → n ≡ true → (b && not n) ≡ false
both true true e = refl
both false true e = refl
both b false e = cc

pub loop-at-init : goal.loop-at-init
loop-at-init c = record {
  within = c.next-at.ensures.most;
  there = c.next-at.ensures.found;
  still = λ m lt. not_before (in_set c.args.before.now m) (in_set c.args.now.now m) (c.next-at.ensures.between m (omega arith) lt);
}

pub returns-then-not-contains : goal.returns-then-not-contains
returns-then-not-contains c =
    let at = c.loop-at.at in
    let n = c.args.machines in
    let lt = c.loop-at-test.true in
    let f : ℕ → Bool = λ m. in_set c.args.before.now m && not (in_set c.args.now.now m) in
    let few = c.requires in
    let long = length-below n in
    let gone : f at ≡ true = is (in_set c.args.before.now at) (in_set c.args.now.now at) (c.loop-at.invariant.there (omega (arith, lt, few))) (sym c.contains.ensures ∙ c.if-not-contains.true) in
    sym (list_any_at f (below n) at 0 (omega (arith, lt, long)) (ap f (get_or-below n at lt) ∙ gone))
  where
    is : (b n : Bool) → b ≡ true → n ≡ false → (b && not n) ≡ true
    is true false e f = refl
    is false n e f = cc
    is true true e f = cc

pub loop-at-preserved : goal.loop-at-preserved
loop-at-preserved c =
    let at = c.loop-at.at in
    let f : ℕ → Bool = λ m. in_set c.args.before.now m && not (in_set c.args.now.now m) in
    record {
      within = c.next-at-in-loop-at.ensures.most;
      there = c.next-at-in-loop-at.ensures.found;
      still = λ m lt. elim (cases_lt m at) as (λ _. f m ≡ false) [
        | inl l ↦ c.loop-at.invariant.still m l
        | inr ge ↦ elim (cases_eq m at) as (λ _. f m ≡ false) [
          | inl e ↦ ap f e ∙ both (in_set c.args.before.now at) (in_set c.args.now.now at) (sym c.contains.ensures ∙ c.if-not-contains.false)
          | inr d ↦ not_before (in_set c.args.before.now m) (in_set c.args.now.now m) (c.next-at-in-loop-at.ensures.between m (omega (arith, ge, d)) lt)
        ]
      ];
    }

pub returns : goal.returns
returns c =
    let end = c.loop-at-test.false in
    sym (any_none (λ m. in_set c.args.before.now m && not (in_set c.args.now.now m)) c.args.machines (λ m lt. c.loop-at.invariant.still m (omega (arith, lt, end))))

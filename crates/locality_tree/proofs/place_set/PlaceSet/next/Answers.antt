use Rattle.std.proofs.Common.{◌≡◌, ◌<◌, ◌/◌, ◌^◌, false, get_or, inl, inr, arith, rules}
use Rattle.std.proofs.lemmas.Bool.{cases_lt}
use Rattle.locality_tree.specs.PlaceSets.{in_set}
use Rattle.locality_tree.proofs.PlaceSetsLemmas.{rest_none, lowest_inside, lowest_found, lowest_first}
use Rattle.locality_tree.proofs.place_set.PlaceSet.next.Goals as goal

pub returns-then-rest-ne0-clause-most : goal.returns-then-rest-ne0-clause-most
returns-then-rest-ne0-clause-most c =
    let at = c.loop-at.at in
    let some = c.if-rest-ne0.true in
    let range : get_or c.args.self.now.words (at / 64) 0 < 2 ^ 64 = omega arith in
    let within = lowest_inside c.args.self.now.words at (omega (arith, some)) range in
    let test = c.loop-at-test.true in
    omega (arith, within, test)

pub returns-then-rest-ne0-clause-found : goal.returns-then-rest-ne0-clause-found
returns-then-rest-ne0-clause-found c = λ h. lowest_found c.args.self.now.words c.loop-at.at (search rules) (omega arith)

pub returns-then-rest-ne0-clause-between : goal.returns-then-rest-ne0-clause-between
returns-then-rest-ne0-clause-between c = λ n least most. elim (cases_lt n c.loop-at.at) as (λ _. in_set c.args.self.now n ≡ false) [
  | inl h ↦ c.loop-at.invariant.none n least h
  | inr h ↦ lowest_first c.args.self.now.words c.loop-at.at (search rules) (omega arith) n h most
]

pub loop-at-preserved : goal.loop-at-preserved
loop-at-preserved c =
    let at = c.loop-at.at in
    let test = c.loop-at-test.true in
    let less = c.loop-at.invariant.least in
    record {
      least = omega (arith, less);
      most = omega (arith, test);
      none = λ n least most. elim (cases_lt n at) as (λ _. in_set c.args.self.now n ≡ false) [
        | inl h ↦ c.loop-at.invariant.none n least h
        | inr h ↦ rest_none c.args.self.now.words at (search rules) n h most
      ];
    }

use Rattle.std.proofs.Common.{◌≡◌, ◌+◌, ◌≤◌, ℕ, nat_lt, refl, sym, ◌∙◌, ap, subst, arith, inl, inr}
use Rattle.std.proofs.lemmas.Bool.{cases_eq, cases_lt}
use Rattle.fuxi_terms.specs.Keys.{key_cmp}
use Rattle.fuxi_terms.specs.Counts.{count}
use Rattle.fuxi_terms.specs.TallyKeys.{key}
use Rattle.locality_tree.specs.PlaceSets.{in_set}
use Rattle.place_pass.specs.Cells.{numbers_at}
use Rattle.place_pass.proofs.Places.{counted_at, counted_long}
use Rattle.place_pass.proofs.CellsLemmas.{avoided_once, ones_are}
use Rattle.place_pass.proofs.DemandWalksLemmas.{later_past}
use Rattle.place_pass.proofs.demand.reading.avoided_by.Goals as goal

pub next_asked-machine-requires-clause-past : goal.next_asked-machine-requires-clause-past
next_asked-machine-requires-clause-past c = c.loop-next.invariant.past

pub loop-next-init : goal.loop-next-init
loop-next-init c = record {
  within = omega arith;
  done = λ k lt. absurd (omega (arith, lt));
  left = λ k ge. c.new-avoided.ensures k;
  past = λ q above. refl;
}

pub loop-next-preserved : goal.loop-next-preserved
loop-next-preserved c =
    let es = c.args.demand.now.entries in
    let unit = c.args.unit in
    let f : ℕ → ℕ = λ m. count key_cmp es (key 4 unit m) in
    let i = c.loop-next.invariant in
    let n = c.loop-next.next in
    let m = c.next_asked-machine.result.0 in
    let x = c.next_asked-machine.ensures in
    let least = x.least in
    let set = c.set.new.self in
    record {
      within = let inside = x.inside in omega (arith, inside);
      done = λ k lt. elim (cases_eq k m) as (λ _. in_set set k ≡ nat_lt 0 (f k)) [
        | inl q ↦ subst (λ j. in_set set j ≡ nat_lt 0 (f j)) (sym q) (c.set.ensures.here ∙ ap (nat_lt 0) x.asked)
        | inr d ↦ c.set.ensures.others k d ∙ elim (cases_lt k n) as (λ _. in_set c.loop-next.avoided k ≡ nat_lt 0 (f k)) [
          | inl l ↦ i.done k l
          | inr ge ↦ i.left k ge ∙ sym (ap (nat_lt 0) (x.between k ge (omega (arith, lt, d))))
        ]
      ];
      left = λ k ge. c.set.ensures.others k (λ e. omega (arith, e, ge)) ∙ i.left k (omega (arith, ge, least));
      past = later_past es c.next_asked-machine.new.passed 4 unit m (m + 1) (omega arith) x.past;
    }

pub returns : goal.returns
returns c =
    let f : ℕ → ℕ = λ m. count key_cmp c.args.demand.now.entries (key 4 c.args.unit m) in
    let n = c.args.machines in
    let end = c.loop-next-test.false in
    ones_are n c.loop-next.avoided (numbers_at c.args.demand.now.entries 4 c.args.unit n) (counted_long f n)
    (λ m lt. subst (λ x. x ≤ 1) (sym (counted_at f n m lt)) (avoided_once c.args.demand.now.entries c.args.unit m c.entries-counts.ensures.counts))
    (λ m lt. c.loop-next.invariant.done m (omega (arith, lt, end)) ∙ ap (nat_lt 0) (sym (counted_at f n m lt)))

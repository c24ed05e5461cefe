use Rattle.std.proofs.Common.{◌≡◌, ◌+◌, ◌<◌, ℕ, length, get_or, sym, ◌∙◌, subst, arith, inl, inr, rules}
use Rattle.std.proofs.lemmas.Bool.{cases_eq, cases_lt}
use Rattle.std.proofs.lemmas.List.{ext_get_or}
use Rattle.fuxi_terms.specs.Keys.{key_cmp}
use Rattle.fuxi_terms.specs.Counts.{count}
use Rattle.fuxi_terms.specs.TallyKeys.{key}
use Rattle.place_pass.specs.Cells.{numbers_at}
use Rattle.place_pass.proofs.Places.{counted_at, counted_long}
use Rattle.place_pass.proofs.DemandWalksLemmas.{later_past}
use Rattle.place_pass.proofs.demand.differing.has_near.Goals as goal

pub next_asked-machine-requires-clause-past : goal.next_asked-machine-requires-clause-past
next_asked-machine-requires-clause-past c = c.loop-next.invariant.past

pub loop-next-preserved : goal.loop-next-preserved
loop-next-preserved c =
    let es = c.args.demand.now.entries in
    let unit = c.args.unit in
    let f : ℕ → ℕ = λ m. count key_cmp es (key 2 unit m) in
    let near = c.args.near.now in
    let i = c.loop-next.invariant in
    let n = c.loop-next.next in
    let m = c.next_asked-machine.result.0 in
    let x = c.next_asked-machine.ensures in
    let wide : m < length near = let inside = x.inside in let all = c.requires in omega (arith, inside, all) in
    let here : get_or near m 0 ≡ c.next_asked-machine.result.1 = search rules in
    record {
      within = let inside = x.inside in omega (arith, inside);
      done = λ k lt. elim (cases_lt k n) as (λ _. get_or near k 0 ≡ f k) [
        | inl l ↦ i.done k l
        | inr ge ↦ elim (cases_eq k m) as (λ _. get_or near k 0 ≡ f k) [
          | inl q ↦ subst (λ j. get_or near j 0 ≡ f j) (sym q) (here ∙ x.asked)
          | inr d ↦ c.is_clear.ensures (search rules) k ge (omega (arith, lt, d)) ∙ sym (x.between k ge (omega (arith, lt, d)))
        ]
      ];
      past = later_past es c.next_asked-machine.new.passed 2 unit m (m + 1) (omega arith) x.past;
    }

pub returns : goal.returns
returns c e =
    let f : ℕ → ℕ = λ m. count key_cmp c.args.demand.now.entries (key 2 c.args.unit m) in
    let long = c.requires in
    let all = counted_long f c.args.machines in
    let end = c.loop-next-test.false in
    ext_get_or 0 (numbers_at c.args.demand.now.entries 2 c.args.unit c.args.machines) c.args.near.now (omega (arith, long, all))
    (λ i lt. let l : i < c.args.machines = omega (arith, lt, all) in counted_at f c.args.machines i l ∙ sym (c.loop-next.invariant.done i (omega (arith, l, end))))

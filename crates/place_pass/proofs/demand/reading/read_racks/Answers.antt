use Rattle.std.proofs.Common.{◌≡◌, ◌≢◌, ◌+◌, ◌<◌, ℕ, cond, length, length-set, set, get_or, sym, ap, subst, ◌∙◌, arith, inl, inr}
use Rattle.std.proofs.lemmas.Bool.{cases_eq, cases_lt}
use Rattle.std.proofs.lemmas.List.{ext_get_or, get_or-set_same, get_or-set_other}
use Rattle.fuxi_terms.specs.Cluster.{has_rack}
use Rattle.fuxi_terms.specs.Keys.{key_cmp}
use Rattle.fuxi_terms.specs.Counts.{count}
use Rattle.fuxi_terms.specs.TallyKeys.{rack_key}
use Rattle.place_pass.specs.Cells.{racks_at}
use Rattle.place_pass.proofs.Places.{counted_at, counted_long}
use Rattle.place_pass.proofs.DemandWalksLemmas.{later_past}
use Rattle.fuxi_terms.proofs.Booleans.{zero_either}
use Rattle.place_pass.proofs.demand.reading.read_racks.Goals as goal

pub next_asked-rack-requires-clause-past : goal.next_asked-rack-requires-clause-past
next_asked-rack-requires-clause-past c = c.loop-next.invariant.past

pub loop-next-preserved : goal.loop-next-preserved
loop-next-preserved c =
    let es = c.args.demand.now.entries in
    let f : ℕ → ℕ = λ r. cond (has_rack c.args.cluster.now r) (count key_cmp es (rack_key c.args.unit r)) 0 in
    let i = c.loop-next.invariant in
    let n = c.loop-next.next in
    let m = c.next_asked-rack.result.0 in
    let number = c.rack_number-number.result in
    let x = c.next_asked-rack.ensures in
    let least = x.least in
    let a = c.clear_numbers.new.numbers in
    let b = set a m number in
    let clear = c.clear_numbers.ensures in
    let wide : m < length a = let inside = x.inside in let long = i.long in let kept = clear.long in omega (arith, inside, long, kept) in
    let here : get_or b m 0 ≡ f m = get_or-set_same a m number 0 wide ∙ c.rack_number-number.ensures ∙ ap (λ z. cond (has_rack c.args.cluster.now m) z 0) x.asked in
    let other : (k : ℕ) → k ≢ m → get_or b k 0 ≡ get_or a k 0 = λ k d. get_or-set_other a m k number 0 d in
    record {
      within = let inside = x.inside in omega (arith, inside);
      long = length-set a m number ∙ clear.long ∙ i.long;
      done = λ k lt. elim (cases_lt k n) as (λ _. get_or b k 0 ≡ f k) [
        | inl l ↦ other k (omega (arith, l, least)) ∙ clear.before k l ∙ i.done k l
        | inr ge ↦ elim (cases_eq k m) as (λ _. get_or b k 0 ≡ f k) [
          | inl q ↦ subst (λ j. get_or b j 0 ≡ f j) (sym q) here
          | inr d ↦ other k d ∙ clear.zero k ge (omega (arith, lt, d)) ∙ sym (ap (λ z. cond (has_rack c.args.cluster.now k) z 0) (x.between k ge (omega (arith, lt, d))) ∙ zero_either (has_rack c.args.cluster.now k))
        ]
      ];
      past = later_past es c.next_asked-rack.new.passed 3 c.args.unit m (m + 1) (omega arith) x.past;
    }

pub returns : goal.returns
returns c =
    let f : ℕ → ℕ = λ r. cond (has_rack c.args.cluster.now r) (count key_cmp c.args.demand.now.entries (rack_key c.args.unit r)) 0 in
    let n = c.loop-next.invariant.long in
    let all = counted_long f 64 in
    let end = c.loop-next-test.false in
    ext_get_or 0 c.loop-next.racks (racks_at c.args.cluster.now c.args.demand.now.entries c.args.unit) (omega (arith, n, all))
    (λ i lt. let l : i < 64 = omega (arith, lt, n) in c.loop-next.invariant.done i (omega (arith, l, end)) ∙ sym (counted_at f 64 i l))

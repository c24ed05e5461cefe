use Rattle.std.proofs.Common.{◌≡◌, ◌+◌, ◌<◌, ℕ, cond, length, get_or, sym, ◌∙◌, ap, subst, arith, inl, inr, rules}
use Rattle.std.proofs.lemmas.Bool.{cases_eq, cases_lt}
use Rattle.std.proofs.lemmas.List.{ext_get_or}
use Rattle.fuxi_terms.specs.Cluster.{has_rack}
use Rattle.fuxi_terms.specs.Keys.{key_cmp}
use Rattle.fuxi_terms.specs.Counts.{count}
use Rattle.fuxi_terms.specs.TallyKeys.{rack_key}
use Rattle.place_pass.specs.Cells.{racks_at}
use Rattle.place_pass.proofs.Places.{counted_at, counted_long}
use Rattle.place_pass.proofs.DemandWalksLemmas.{later_past}
use Rattle.fuxi_terms.proofs.Booleans.{zero_either}
use Rattle.place_pass.proofs.demand.differing.has_racks.Goals as goal

pub next_asked-rack-requires-clause-past : goal.next_asked-rack-requires-clause-past
next_asked-rack-requires-clause-past c = c.loop-next.invariant.past

pub loop-next-preserved : goal.loop-next-preserved
loop-next-preserved c =
    let es = c.args.demand.now.entries in
    let f : ℕ → ℕ = λ r. cond (has_rack c.args.cluster.now r) (count key_cmp es (rack_key c.args.unit r)) 0 in
    let racks = c.args.racks.now in
    let i = c.loop-next.invariant in
    let n = c.loop-next.next in
    let m = c.next_asked-rack.result.0 in
    let x = c.next_asked-rack.ensures in
    let wide : m < length racks = let inside = x.inside in omega (arith, inside) in
    let here : get_or racks m 0 ≡ c.rack_number-number.result = search rules in
    record {
      within = let inside = x.inside in omega (arith, inside);
      done = λ k lt. elim (cases_lt k n) as (λ _. get_or racks k 0 ≡ f k) [
        | inl l ↦ i.done k l
        | inr ge ↦ elim (cases_eq k m) as (λ _. get_or racks k 0 ≡ f k) [
          | inl q ↦ subst (λ j. get_or racks j 0 ≡ f j) (sym q) (here ∙ c.rack_number-number.ensures ∙ ap (λ z. cond (has_rack c.args.cluster.now m) z 0) x.asked)
          | inr d ↦ c.is_clear.ensures (search rules) k ge (omega (arith, lt, d)) ∙ sym (ap (λ z. cond (has_rack c.args.cluster.now k) z 0) (x.between k ge (omega (arith, lt, d))) ∙ zero_either (has_rack c.args.cluster.now k))
        ]
      ];
      past = later_past es c.next_asked-rack.new.passed 3 c.args.unit m (m + 1) (omega arith) x.past;
    }

pub returns : goal.returns
returns c e =
    let f : ℕ → ℕ = λ r. cond (has_rack c.args.cluster.now r) (count key_cmp c.args.demand.now.entries (rack_key c.args.unit r)) 0 in
    let n : length c.args.racks.now ≡ 64 = search rules in
    let all = counted_long f 64 in
    let end = c.loop-next-test.false in
    ext_get_or 0 (racks_at c.args.cluster.now c.args.demand.now.entries c.args.unit) c.args.racks.now (omega (arith, n, all))
    (λ i lt. let l : i < 64 = omega (arith, lt, all) in counted_at f 64 i l ∙ sym (c.loop-next.invariant.done i (omega (arith, l, end))))

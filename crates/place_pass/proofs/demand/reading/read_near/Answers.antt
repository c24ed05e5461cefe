use Rattle.std.proofs.Common.{◌≡◌, ◌≢◌, ◌+◌, ◌<◌, ℕ, length, length-set, set, get_or, sym, ◌∙◌, subst, arith, inl, inr}
use Rattle.std.proofs.lemmas.Bool.{cases_eq, cases_lt}
use Rattle.std.proofs.lemmas.List.{ext_get_or, get_or-set_same, get_or-set_other}
use Rattle.fuxi_terms.specs.Keys.{key_cmp}
use Rattle.fuxi_terms.specs.Counts.{count}
use Rattle.fuxi_terms.specs.TallyKeys.{key}
use Rattle.place_pass.specs.Cells.{numbers_at}
use Rattle.place_pass.proofs.Places.{counted_at, counted_long}
use Rattle.place_pass.proofs.DemandWalksLemmas.{later_past}
use Rattle.place_pass.proofs.demand.reading.read_near.Goals as goal

pub next_asked-machine-requires-clause-past : goal.next_asked-machine-requires-clause-past
next_asked-machine-requires-clause-past c = c.loop-next.invariant.past

pub clear_numbers-requires-clause-inside : goal.clear_numbers-requires-clause-inside
clear_numbers-requires-clause-inside c =
    let x = c.next_asked-machine.ensures.inside in
    let all = c.requires in
    let long = c.loop-next.invariant.long in
    omega (arith, x, all, long)

pub loop-next-preserved : goal.loop-next-preserved
loop-next-preserved c =
    let es = c.args.demand.now.entries in
    let unit = c.args.unit in
    let f : ℕ → ℕ = λ m. count key_cmp es (key 2 unit m) in
    let i = c.loop-next.invariant in
    let n = c.loop-next.next in
    let m = c.next_asked-machine.result.0 in
    let number = c.next_asked-machine.result.1 in
    let x = c.next_asked-machine.ensures in
    let least = x.least in
    let a = c.clear_numbers.new.numbers in
    let b = set a m number in
    let clear = c.clear_numbers.ensures in
    let wide : m < length a = let inside = x.inside in let all = c.requires in let long = i.long in let kept = clear.long in omega (arith, inside, all, long, kept) in
    let other : (k : ℕ) → k ≢ m → get_or b k 0 ≡ get_or a k 0 = λ k d. get_or-set_other a m k number 0 d in
    record {
      within = let inside = x.inside in omega (arith, inside);
      long = length-set a m number ∙ clear.long ∙ i.long;
      done = λ k lt. elim (cases_lt k n) as (λ _. get_or b k 0 ≡ f k) [
        | inl l ↦ other k (omega (arith, l, least)) ∙ clear.before k l ∙ i.done k l
        | inr ge ↦ elim (cases_eq k m) as (λ _. get_or b k 0 ≡ f k) [
          | inl q ↦ subst (λ j. get_or b j 0 ≡ f j) (sym q) (get_or-set_same a m number 0 wide ∙ x.asked)
          | inr d ↦ other k d ∙ clear.zero k ge (omega (arith, lt, d)) ∙ sym (x.between k ge (omega (arith, lt, d)))
        ]
      ];
      past = later_past es c.next_asked-machine.new.passed 2 unit m (m + 1) (omega arith) x.past;
    }

pub returns : goal.returns
returns c =
    let f : ℕ → ℕ = λ m. count key_cmp c.args.demand.now.entries (key 2 c.args.unit m) in
    let n = c.loop-next.invariant.long in
    let long = c.requires in
    let all = counted_long f c.args.machines in
    let end = c.loop-next-test.false in
    ext_get_or 0 c.loop-next.near (numbers_at c.args.demand.now.entries 2 c.args.unit c.args.machines) (omega (arith, n, long, all))
    (λ i lt. let l : i < c.args.machines = omega (arith, lt, n, long) in c.loop-next.invariant.done i (omega (arith, l, end)) ∙ sym (counted_at f c.args.machines i l))

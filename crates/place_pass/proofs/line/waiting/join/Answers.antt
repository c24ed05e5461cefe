use Rattle.std.proofs.Common.{◌≡◌, ℕ, ◌+◌, ◌≤◌, Bool, true, false, not, nat_eq, nat_lt, [], ◌++◌, length, map, filter, get_or, refl, sym, ◌∙◌, ap, subst, arith, append_assoc, inl, inr}
use Rattle.std.specs.Prelude.{◌&&◌, ◌||◌}
use Rattle.std.proofs.lemmas.Bool.{cases_lt}
use Rattle.std.proofs.lemmas.Bool.Decides.{nat_tests}
use Rattle.fuxi_terms.specs.Cluster.{JobRecord}
use Rattle.fuxi_terms.specs.Jobs.{unit_count}
use Rattle.fuxi_terms.specs.Keys.{Pair}
use Rattle.fuxi_terms.specs.Lists.{below}
use Rattle.fuxi_terms.specs.Numbers.{has_number}
use Rattle.fuxi_terms.proofs.Booleans.{and_false, and_true, both_true, number_is, or_false}
use Rattle.spec_roles.specs.Masters.{out_of}
use Rattle.spec_roles.specs.Placing.{has_pair, waiting_in}
use Rattle.grant_table.specs.GrantTables.{as_known}
use Rattle.place_pass.specs.Cells.{asks_in}
use Rattle.place_pass.specs.WaitingLines.{same_pair, waiting_of}
use Rattle.place_pass.proofs.CellsLemmas.{placed}
use Rattle.place_pass.proofs.CellsMatchTable.{count_is}
use Rattle.place_pass.proofs.NumberedLemmas.{none_had, none_joined}
use Rattle.place_pass.proofs.WaitingLinesLemmas.{any_append, append_nil, has_filter, has_flat, known_number}
use Rattle.place_pass.proofs.StillLemmas.{calm_waits, filter_alike, one_job_more, paired_same}
use Rattle.place_pass.proofs.line.waiting.join.Goals as goal

pub returns-then-not-begins-clause-pairs : goal.returns-then-not-begins-clause-pairs
returns-then-not-begins-clause-pairs c =
    let old = c.args.line.now.pairs in
    let t = c.args.table.now in
    let w = c.args.wishes.now in
    let units = unit_count (as_known t.jobs) in
    sym (ap (λ xs. old ++ xs) (none_joined old (map (λ (j : JobRecord). j.number) t.jobs) units (asks_in w.cells) t.entries (λ a u lt some.
    let out : nat_lt 0 (out_of (asks_in w.cells) t.entries a u) ≡ true = grind (arith, nat_tests, some) in
    elim (get_or c.args.calm.now a false) as (λ b. get_or c.args.calm.now a false ≡ b → has_pair (a, u) old ≡ true) [
      | true ↦ λ calm. c.requires.still.still a u calm ∙ and_true (nat_lt u (units a)) _ (grind (arith, nat_tests, lt)) out
      | false ↦ λ told. let count = count_is w.cluster w.cells t c.requires.level a in c.requires.none c.if-not-begins.true a u told (omega (arith, lt, count)) out
    ] refl)) ∙ append_nil old)

pub loop-number-init : goal.loop-number-init
loop-number-init c =
    let old = c.args.line.now.pairs in
    let t = c.args.table.now in
    let w = c.args.wishes.now in
    let numbers = map (λ (j : JobRecord). j.number) t.jobs in
    let units = unit_count (as_known t.jobs) in
    let out : ℕ → ℕ → Bool = λ a u. nat_lt 0 (out_of (asks_in w.cells) t.entries a u) in
    let all = waiting_in numbers units (asks_in w.cells) t.entries in
    let low = c.low-low.result in
    let first : Pair → Bool = λ p. nat_lt p.0 low && not (has_pair p old) in
    record {
      pairs = sym (ap (λ xs. old ++ xs) (none_had (filter first all) (λ p has.
          let b = both_true (has_pair p all) (first p) (sym (has_filter first p all) ∙ has) in
          let f = both_true (nat_lt p.0 low) (not (has_pair p old)) b.1 in
          let lt = f.0 in
          let known = both_true (nat_lt p.1 (units p.0)) (out p.0 p.1) (both_true (has_number p.0 numbers) _ (sym (has_flat units out p.0 p.1 numbers) ∙ b.0)).1 in
          let unit = known.0 in
          let count = count_is w.cluster w.cells t c.requires.level p.0 in
          let small = (placed w.cluster w.cells w.opened c.are_sound.ensures p.0 p.1 (grind (arith, nat_tests, unit, count))).0 in
          let there = calm_waits w.cells old c.args.calm.now t numbers c.requires.still p (c.low-low.ensures p.0 (grind (arith, nat_tests, lt)) small) b.0 in
          let no : false ≡ true = sym (ap not there) ∙ f.1 in
          let z : ⊥ = cc in z)) ∙ append_nil old);
      admitted = c.requires.admitted;
      units = λ p. refl;
    }

-- of a calm job nobody is appended
pub loop-number-preserved-then-is_calm : goal.loop-number-preserved-then-is_calm
loop-number-preserved-then-is_calm c =
    let old = c.args.line.now.pairs in
    let t = c.args.table.now in
    let w = c.args.wishes.now in
    let numbers = map (λ (j : JobRecord). j.number) t.jobs in
    let all = waiting_in numbers (unit_count (as_known t.jobs)) (asks_in w.cells) t.entries in
    let n = c.loop-number.number in
    let r : Pair → Bool = λ p. not (has_pair p old) in
    let calm = sym c.is_calm.ensures ∙ c.if-is_calm.true in
    record {
      pairs = c.loop-number.invariant.pairs ∙ ap (λ xs. old ++ xs) (filter_alike (λ p. nat_lt p.0 n && r p) (λ p. nat_lt p.0 (n + 1) && r p) all (λ p has.
          elim (nat_eq p.0 n) as (λ t. nat_eq p.0 n ≡ t → (nat_lt p.0 n && r p) ≡ (nat_lt p.0 (n + 1) && r p)) [
            | true ↦ λ e.
                let none : r p ≡ false = ap not (calm_waits w.cells old c.args.calm.now t numbers c.requires.still p (subst (λ x. get_or c.args.calm.now x false ≡ true) (sym (number_is p.0 n e)) calm) has) in
                ap (λ b. nat_lt p.0 n && b) none ∙ and_false (nat_lt p.0 n) ∙ sym (ap (λ b. nat_lt p.0 (n + 1) && b) none ∙ and_false (nat_lt p.0 (n + 1)))
            | false ↦ λ f. ap (λ b. b && r p) (grind (arith, nat_tests, f))
          ] refl));
      admitted = c.loop-number.invariant.admitted;
      units = c.loop-number.invariant.units;
    }

pub loop-number-preserved : goal.loop-number-preserved
loop-number-preserved c =
    let old = c.args.line.now.pairs in
    let r : Pair → Bool = λ p. not (has_pair p old) in
    let t = c.args.table.now in
    let asks = asks_in c.args.wishes.now.cells in
    let numbers = map (λ (j : JobRecord). j.number) t.jobs in
    let n = c.loop-number.number in
    let units = unit_count (as_known t.jobs) in
    let out : ℕ → ℕ → Bool = λ a u. nat_lt 0 (out_of asks t.entries a u) in
    let line = c.loop-number.line.pairs in
    let all = waiting_in numbers units asks t.entries in
    let q : Pair → Bool = λ p. nat_lt p.0 n && r p in
    let itself : nat_lt n n ≡ false = grind (arith, nat_tests) in
    let same = λ (u : ℕ). ap (has_pair (n, u)) c.loop-number.invariant.pairs ∙ any_append (same_pair (n, u)) old (filter q all)
    ∙ ap (λ b. has_pair (n, u) old || b) (has_filter q (n, u) all ∙ ap (λ b. has_pair (n, u) all && (b && r (n, u))) itself ∙ and_false (has_pair (n, u) all)) ∙ or_false (has_pair (n, u) old) in
    let none = λ (f : has_number n numbers ≡ false).
    let zero : units n ≡ 0 = elim (cases_lt 0 (units n)) [
      | inl l ↦ let no : true ≡ false = sym (known_number t.jobs n l) ∙ f in cc
      | inr le ↦ omega (arith, le)
    ] in
    ap (λ k. filter (out n) (below k)) zero in
    record {
      pairs = c.join_units.ensures.pairs
          ∙ ap (λ xs. line ++ xs) (paired_same (λ p. not (has_pair p line)) r n _ (λ u. ap not (same u)))
          ∙ ap (λ ks. ks ++ filter r (waiting_of asks t.entries n (length (get_or c.args.wishes.now.cells n [])))) c.loop-number.invariant.pairs
          ∙ ap (λ k. (old ++ filter q all) ++ filter r (waiting_of asks t.entries n k)) (count_is c.args.wishes.now.cluster c.args.wishes.now.cells t c.requires.level n)
          ∙ append_assoc old (filter q all) (filter r (waiting_of asks t.entries n (units n)))
          ∙ ap (λ xs. old ++ xs) (sym (one_job_more r (λ a. filter (out a) (below (units a))) n t.jobs c.requires.jobs none));
      admitted = c.join_units.ensures.admitted;
      units = λ p. c.join_units.ensures.units p ∙ c.loop-number.invariant.units p;
    }

pub returns-clause-pairs : goal.returns-clause-pairs
returns-clause-pairs c =
    let old = c.args.line.now.pairs in
    let t = c.args.table.now in
    let w = c.args.wishes.now in
    let numbers = map (λ (j : JobRecord). j.number) t.jobs in
    let units = unit_count (as_known t.jobs) in
    let out : ℕ → ℕ → Bool = λ a u. nat_lt 0 (out_of (asks_in w.cells) t.entries a u) in
    let all = waiting_in numbers units (asks_in w.cells) t.entries in
    let r : Pair → Bool = λ p. not (has_pair p old) in
    let end = c.loop-number-test.false in
    c.loop-number.invariant.pairs ∙ ap (λ xs. old ++ xs) (filter_alike (λ p. nat_lt p.0 c.loop-number.number && r p) r all (λ p has.
    elim (nat_lt p.0 c.loop-number.number) as (λ t. nat_lt p.0 c.loop-number.number ≡ t → (t && r p) ≡ r p) [
      | true ↦ λ _. refl
      | false ↦ λ f.
          let ge : c.high-high.result ≤ p.0 = grind (arith, nat_tests, f, end) in
          let known = both_true (nat_lt p.1 (units p.0)) (out p.0 p.1) (both_true (has_number p.0 numbers) _ (sym (has_flat units out p.0 p.1 numbers) ∙ has)).1 in
          let unit = known.0 in
          let count = count_is w.cluster w.cells t c.requires.level p.0 in
          let small = (placed w.cluster w.cells w.opened c.are_sound.ensures p.0 p.1 (grind (arith, nat_tests, unit, count))).0 in
          sym (ap not (calm_waits w.cells old c.args.calm.now t numbers c.requires.still p (c.high-high.ensures p.0 ge small) has))
    ] refl))

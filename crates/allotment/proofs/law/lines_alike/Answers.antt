use Rattle.std.proofs.Common.{◌≡◌, ℕ, Bool, true, false, cond, not, nat_eq, nat_lt, List, [], ◌∷◌, ◌++◌, map, filter, refl, sym, ◌∙◌, ap}
use Rattle.std.specs.Prelude.{◌&&◌, ◌||◌}
use Rattle.std.specs.List.{AllByRecursion}
use Rattle.fuxi_terms.specs.declared.Key.{Key}
use Rattle.fuxi_terms.specs.Jobs.{unit_count, job_numbers}
use Rattle.fuxi_terms.specs.Keys.{Pair}
use Rattle.fuxi_terms.specs.Lists.{below}
use Rattle.fuxi_terms.proofs.Alls.{all_append}
use Rattle.fuxi_terms.proofs.Booleans.{both_true, number_is}
use Rattle.fuxi_terms.specs.Tables.{Table}
use Rattle.spec_roles.specs.Masters.{asked, out_of}
use Rattle.spec_roles.specs.Placing.{has_pair, waiting_in, waiting_pairs}
use Rattle.allotment.proofs.AddsLemmas.{filter_twice}
use Rattle.allotment.proofs.law.lines_alike.Goals as goal

-- a pair that passes the test is found alike
found_alike : (w : Pair → Bool) (p : Pair) (line : List Pair) → w p ≡ true → has_pair p (filter w line) ≡ has_pair p line
found_alike w p [] e = refl
found_alike w p (x ∷ xs) e = by (found_alike w p xs e) (w x) refl (nat_eq p.0 x.0 && nat_eq p.1 x.1) refl
  where
    by : has_pair p (filter w xs) ≡ has_pair p xs → (b : Bool) → w x ≡ b → (d : Bool) → (nat_eq p.0 x.0 && nat_eq p.1 x.1) ≡ d → has_pair p (cond (w x) (x ∷ filter w xs) (filter w xs)) ≡ ((nat_eq p.0 x.0 && nat_eq p.1 x.1) || has_pair p xs)
    by r true f d g = ap (λ t. has_pair p (cond t (x ∷ filter w xs) (filter w xs))) f ∙ ap (λ t. (nat_eq p.0 x.0 && nat_eq p.1 x.1) || t) r
    by r false f false g = ap (λ t. has_pair p (cond t (x ∷ filter w xs) (filter w xs))) f ∙ r ∙ ap (λ t. t || has_pair p xs) (sym g)
    by r false f true g =
        let q = both_true (nat_eq p.0 x.0) (nat_eq p.1 x.1) g in
        let i = number_is p.0 x.0 q.0 in let j = number_is p.1 x.1 q.1 in
        let same : w p ≡ w x = λ k. w (i k, j k) in
        let no_way : true ≡ false = sym e ∙ same ∙ f in
        absurd (let z : ⊥ = cc in z)

filter_same : (f g : Pair → Bool) (ps : List Pair) → AllByRecursion (λ p. f p ≡ g p) ps → filter f ps ≡ filter g ps
filter_same f g [] h = refl
filter_same f g (p ∷ ps) h = let e = h.0 in let r = filter_same f g ps h.1 in λ i. cond (e i) (p ∷ r i) (r i)

-- the pairs that wait pass the test
module _ (asks : ℕ → Key → ℕ) (table : Table) where
  abbrev waits : Pair → Bool
  waits p = nat_lt 0 (out_of asks table p.0 p.1)

  units_wait : (a : ℕ) (us : List ℕ) → AllByRecursion (λ p. waits p ≡ true) (map (λ u. (a, u)) (filter (λ u. nat_lt 0 (out_of asks table a u)) us))
  units_wait a [] = tt
  units_wait a (u ∷ us) = elim (nat_lt 0 (out_of asks table a u)) as (λ b. nat_lt 0 (out_of asks table a u) ≡ b → AllByRecursion (λ p. waits p ≡ true) (map (λ u. (a, u)) (cond b (u ∷ filter (λ u. nat_lt 0 (out_of asks table a u)) us) (filter (λ u. nat_lt 0 (out_of asks table a u)) us)))) [
    | true ↦ λ t. (t, units_wait a us)
    | false ↦ λ _. units_wait a us
  ] refl

  all_wait : (numbers : List ℕ) (units : ℕ → ℕ) → AllByRecursion (λ p. waits p ≡ true) (waiting_in numbers units asks table)
  all_wait [] units = tt
  all_wait (a ∷ as_) units = all_append (λ p. waits p ≡ true) (map (λ u. (a, u)) (filter (λ u. nat_lt 0 (out_of asks table a u)) (below (units a)))) (waiting_in as_ units asks table) (units_wait a (below (units a))) (all_wait as_ units)

found_passes : (w : Pair → Bool) (ps : List Pair) → AllByRecursion (λ p. w p ≡ true) ps → (p : Pair) → has_pair p ps ≡ true → w p ≡ true
found_passes w [] h p e = cc
found_passes w (x ∷ xs) h p e = by (nat_eq p.0 x.0 && nat_eq p.1 x.1) refl (found_passes w xs h.1 p)
  where
    by : (d : Bool) → (nat_eq p.0 x.0 && nat_eq p.1 x.1) ≡ d → (has_pair p xs ≡ true → w p ≡ true) → w p ≡ true
    by true g r =
        let q = both_true (nat_eq p.0 x.0) (nat_eq p.1 x.1) g in
        let i = number_is p.0 x.0 q.0 in let j = number_is p.1 x.1 q.1 in
        (λ k. w (i k, j k)) ∙ h.0
    by false g r = r (sym (ap (λ b. b || has_pair p xs) g) ∙ e)

alike_each : (w : Pair → Bool) (line ps : List Pair) → AllByRecursion (λ p. w p ≡ true) ps → AllByRecursion (λ p. not (has_pair p (filter w line)) ≡ not (has_pair p line)) ps
alike_each w line [] h = tt
alike_each w line (p ∷ ps) h = (ap not (found_alike w p line h.0), alike_each w line ps h.1)

pub returns : goal.returns
returns c = λ M.
    let w : Pair → Bool = λ p. nat_lt 0 (out_of (asked M) M.table p.0 p.1) in
    let pairs = waiting_pairs M in
    let all = all_wait (asked M) M.table (job_numbers M.jobs) (unit_count M.jobs) in
    let stay = filter_twice (λ p. has_pair p pairs) w M.line (found_passes w pairs all) in
    let come = filter_same (λ p. not (has_pair p (filter w M.line))) (λ p. not (has_pair p M.line)) pairs (alike_each w M.line pairs all) in
    λ i. record M { line = stay i ++ come i }

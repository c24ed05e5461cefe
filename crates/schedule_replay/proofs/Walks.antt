-- Each entry of a map by number once: what is found at each of its numbers, or at each number below one that none is beyond, is all that is there.
use Rattle.std.proofs.Common.{◌≡◌, ℕ, zero, suc, ◌≤◌, Bool, true, false, cond, nat_eq, nat_lt, T, List, [], ◌∷◌, ◌++◌, map, Option, Some, None, refl, sym, ◌∙◌, ap, arith, append_assoc, append-nil}
use Rattle.std.specs.List.{flat_map}
use Rattle.std.specs.Ordering.{nat_cmp, is_eq, is_lt, ordering_reverse}
use Rattle.std.specs.Cmp.{nat_cmp_total, tied_itself, unsigned_tied}
use Rattle.std.specs.declared.cmp.Ordering.TheVariants.{Greater}
use Rattle.std.specs.FinMap.Entries.{find, is_sorted, below_all}
use Rattle.std.proofs.lemmas.Bool.Decides.{nat_tests}
use Rattle.std.proofs.lemmas.List.Concat.{flat_map-append}
use Rattle.fuxi_terms.specs.Lists.{below}
use Rattle.fuxi_terms.proofs.CountsLemmas.{both_true, lesser}
use Rattle.spec_roles.specs.Refusals.{with_found}

left_over : {X : Type 0} (b : Bool) (x : X) (o : Option X) → cond b (Some x) o ≡ None → o ≡ None
left_over true x o e = cc
left_over false x o e = e

module _ {X L : Type 0} (F : ℕ → X → List L) where
  -- what is found at a number
  abbrev pub found_at : List (ℕ × X) → ℕ → List L
  found_at es k = with_found (find nat_cmp k es) [] (F k)

  here : (e : ℕ × X) (es : List (ℕ × X)) → find nat_cmp e.0 (e ∷ es) ≡ Some e.1
  here e es = ap (λ r. cond (is_eq r) (Some e.1) (find nat_cmp e.0 es)) (tied_itself nat_cmp_total e.0)

  -- Numbers above one are found behind it
  skips : (e : ℕ × X) (es fs : List (ℕ × X)) → T (below_all nat_cmp e.0 fs) → flat_map (found_at (e ∷ es)) (map (λ f. f.0) fs) ≡ flat_map (found_at es) (map (λ f. f.0) fs)
  skips e es [] h = refl
  skips e es (f ∷ fs) h =
      let b = both_true (is_lt (nat_cmp e.0 f.0)) _ h in
      let other : nat_cmp f.0 e.0 ≡ Greater = nat_cmp_total.antisymm f.0 e.0 ∙ ap ordering_reverse (lesser _ b.0) in
      let rest = skips e es fs b.1 in
      λ i. with_found (cond (is_eq (other i)) (Some e.1) (find nat_cmp f.0 es)) [] (F f.0) ++ rest i

  pub each_key : (es : List (ℕ × X)) → T (is_sorted nat_cmp es) → flat_map (found_at es) (map (λ e. e.0) es) ≡ flat_map (λ e. F e.0 e.1) es
  each_key [] s = refl
  each_key (e ∷ es) s =
      let b = both_true (below_all nat_cmp e.0 es) _ s in
      let first = here e es in
      let rest = skips e es es b.0 ∙ each_key es b.1 in
      λ i. with_found (first i) [] (F e.0) ++ rest i

  -- The entries whose numbers are below one
  abbrev under : ℕ → List (ℕ × X) → List L
  under n es = flat_map (λ e. cond (nat_lt e.0 n) (F e.0 e.1) []) es

  none_under : (es : List (ℕ × X)) → under zero es ≡ []
  none_under [] = refl
  none_under (e ∷ es) = let over : nat_lt e.0 zero ≡ false = grind (arith, nat_tests) in let rest = none_under es in λ i. cond (over i) (F e.0 e.1) [] ++ rest i

  -- none of them, where all are above the last
  none_over : (k n : ℕ) (es : List (ℕ × X)) → n ≤ suc k → T (below_all nat_cmp k es) → under n es ≡ []
  none_over k n [] le h = refl
  none_over k n (e ∷ es) le h =
      let b = both_true (is_lt (nat_cmp k e.0)) _ h in
      let less = lesser _ b.0 in
      let over : nat_lt e.0 n ≡ false = grind (arith, nat_tests, less, le) in
      let rest = none_over k n es le b.1 in
      λ i. cond (over i) (F e.0 e.1) [] ++ rest i

  one_more : (n : ℕ) (es : List (ℕ × X)) → T (is_sorted nat_cmp es) → under (suc n) es ≡ under n es ++ found_at es n
  one_more n [] s = refl
  one_more n (e ∷ es) s = by (nat_lt e.0 n) (nat_eq n e.0) refl refl (one_more n es b.1)
      ∙ (λ i. (cond (nat_lt e.0 n) V [] ++ under n es) ++ with_found (cond (sym (unsigned_tied n e.0) i) (Some e.1) (find nat_cmp n es)) [] (F n))
    where
      b : T (below_all nat_cmp e.0 es) × T (is_sorted nat_cmp es)
      b = both_true (below_all nat_cmp e.0 es) _ s

      V : List L
      V = F e.0 e.1

      by : (l q : Bool) → nat_lt e.0 n ≡ l → nat_eq n e.0 ≡ q → under (suc n) es ≡ under n es ++ found_at es n
          → cond (nat_lt e.0 (suc n)) V [] ++ under (suc n) es ≡ (cond l V [] ++ under n es) ++ with_found (cond q (Some e.1) (find nat_cmp n es)) [] (F n)
      by true true lt eq rest = absurd (grind (arith, nat_tests, lt, eq))
      by true false lt eq rest =
          let more : nat_lt e.0 (suc n) ≡ true = grind (arith, nat_tests, lt) in
          (λ i. cond (more i) V [] ++ rest i) ∙ sym (append_assoc V (under n es) (found_at es n))
      by false true lt eq rest =
          let same : e.0 ≡ n = grind (arith, nat_tests, eq) in
          let more : nat_lt e.0 (suc n) ≡ true = grind (arith, nat_tests, eq) in
          let gone = none_over e.0 (suc n) es (omega (arith, same)) b.0 in
          let none = none_over e.0 n es (omega (arith, same)) b.0 in
          (λ i. cond (more i) V [] ++ gone i) ∙ append-nil V ∙ (λ i. sym none i ++ F (same i) e.1)
      by false false lt eq rest =
          let more : nat_lt e.0 (suc n) ≡ false = grind (arith, nat_tests, lt, eq) in
          λ i. cond (more i) V [] ++ rest i

  all_under : (n : ℕ) (es : List (ℕ × X)) → ((k : ℕ) → n ≤ k → find nat_cmp k es ≡ None) → under n es ≡ flat_map (λ e. F e.0 e.1) es
  all_under n [] h = refl
  all_under n (e ∷ es) h = by (nat_lt e.0 n) refl (all_under n es (λ k le. left_over _ e.1 (find nat_cmp k es) (h k le)))
    where
      by : (b : Bool) → nat_lt e.0 n ≡ b → under n es ≡ flat_map (λ e. F e.0 e.1) es → under n (e ∷ es) ≡ F e.0 e.1 ++ flat_map (λ e. F e.0 e.1) es
      by true is rest = λ i. cond (is i) (F e.0 e.1) [] ++ rest i
      by false is rest = let none : Some e.1 ≡ None = sym (here e es) ∙ h e.0 (grind (arith, nat_tests, is)) in cc

  below_under : (n : ℕ) (es : List (ℕ × X)) → T (is_sorted nat_cmp es) → flat_map (found_at es) (below n) ≡ under n es
  below_under zero es s = sym (none_under es)
  below_under (suc n) es s = flat_map-append (found_at es) (below n) (n ∷ []) ∙ (λ i. below_under n es s i ++ append-nil (found_at es n) i) ∙ sym (one_more n es s)

  pub each_below : (n : ℕ) (es : List (ℕ × X)) → T (is_sorted nat_cmp es) → ((k : ℕ) → n ≤ k → find nat_cmp k es ≡ None) → flat_map (found_at es) (below n) ≡ flat_map (λ e. F e.0 e.1) es
  each_below n es s h = below_under n es s ∙ all_under n es h

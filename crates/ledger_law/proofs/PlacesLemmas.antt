-- What stands at the place of a key, and what an edit at that place makes.
use Rattle.std.proofs.Common.{◌≡◌, ℕ, zero, suc, ◌<◌, ◌≤◌, true, false, cond, not, nat_eq, List, [], ◌∷◌, length, slice_get, get_or, set, Some, refl, sym, ◌∙◌, ap, subst, arith}
use Rattle.std.specs.Prelude.{T}
use Rattle.std.specs.List.{insert, remove}
use Rattle.std.specs.Option.{unwrap_or}
use Rattle.std.specs.Ordering.{eq_by_cmp, is_eq, is_lt, ordering_reverse}
use Rattle.std.proofs.lemmas.Option.{get_or_from_slice_get, slice_get-get_or}
use Rattle.std.specs.Cmp.{IsTotalOrder}
use Rattle.std.specs.declared.cmp.Ordering.{Ordering}
use Rattle.std.specs.declared.cmp.Ordering.TheVariants.{Less, Equal, Greater}
use Rattle.std.specs.FinMap.Entries.{by_order, below_all, put, where_key, find, is_sorted}
use Rattle.std.proofs.lemmas.Bool.Decides.{nat_tests}
use Rattle.fuxi_terms.specs.Counts.{count, set_count}
use Rattle.ledger_law.specs.Places.{IsHere, IsGap}
use Rattle.fuxi_terms.proofs.CountsLemmas.{both_true, lesser, find_below_head}

module _ {K : Type 0} {R : K → K → Ordering} (o : IsTotalOrder R) where
  abbrev Below : List (K × ℕ) → K → ℕ → Type 0
  Below es k i = (j : ℕ) (e : K × ℕ) → j < i → slice_get es j ≡ Some e → R k e.0 ≡ Greater

  shorter : (e : K × ℕ) (es : List (K × ℕ)) (k : K) (i : ℕ) → Below (e ∷ es) k (suc i) → Below es k i
  shorter e es k i h j f lt is = h (suc j) f (omega arith) is

  -- an entry of a list in order, below whose keys x is
  pub below_at : (x : K) (es : List (K × ℕ)) (i : ℕ) (d : K × ℕ) → i < length es → T (below_all R x es) → R x (get_or es i d).0 ≡ Less
  below_at x [] i d lt h = absurd (omega (arith, lt))
  below_at x (e ∷ es) zero d lt h = lesser _ (both_true (is_lt (R x e.0)) _ h).0
  below_at x (e ∷ es) (suc i) d lt h = below_at x es i d (omega (arith, lt)) (both_true (is_lt (R x e.0)) _ h).1

  keep_above : (k : K) (e : K × ℕ) (es : List (K × ℕ)) → R k e.0 ≡ Less → T (below_all R e.0 es) → where_key R (λ x. not (eq_by_cmp R k x)) es ≡ es
  keep_above k e [] lt h = refl
  keep_above k e (f ∷ es) lt h =
      let b = both_true (is_lt (R e.0 f.0)) _ h in
      ap (λ r. cond (not (is_eq r)) (f ∷ where_key R (λ x. not (eq_by_cmp R k x)) es) (where_key R (λ x. not (eq_by_cmp R k x)) es)) (o.trans k e.0 f.0 lt (lesser _ b.0)) ∙ ap (λ l. f ∷ l) (keep_above k e es lt b.1)

  keep_tied : (k : K) (e : K × ℕ) (es : List (K × ℕ)) → R k e.0 ≡ Equal → T (below_all R e.0 es) → where_key R (λ x. not (eq_by_cmp R k x)) es ≡ es
  keep_tied k e [] eq h = refl
  keep_tied k e (f ∷ es) eq h =
      let b = both_true (is_lt (R e.0 f.0)) _ h in
      ap (λ r. cond (not (is_eq r)) (f ∷ where_key R (λ x. not (eq_by_cmp R k x)) es) (where_key R (λ x. not (eq_by_cmp R k x)) es)) (o.congr k e.0 f.0 eq ∙ lesser _ b.0) ∙ ap (λ l. f ∷ l) (keep_tied k e es eq b.1)

  module _ (k : K) where
    -- the keys before the one that ties are below it
    before_here : (es : List (K × ℕ)) (i : ℕ) → T (is_sorted R es) → IsHere R es k i → Below es k i
    before_here [] i s h j f lt is = absurd (omega (arith, h.within))
    before_here (e ∷ es) zero s h j f lt is = absurd (omega (arith, lt))
    before_here (e ∷ es) (suc i) s h zero f lt is =
        let within : i < length es = omega (arith, h.within) in
        let less : R e.0 (get_or es i e).0 ≡ Less = below_at e.0 es i e within (both_true (below_all R e.0 es) _ s).0 in
        let tie : R k (get_or es i e).0 ≡ Equal = h.here (get_or es i e) (slice_get-get_or es i e within) in
        let above : R k e.0 ≡ Greater = o.congr k (get_or es i e).0 e.0 tie ∙ o.antisymm (get_or es i e).0 e.0 ∙ ap ordering_reverse less in
        subst (λ x. R k x.0 ≡ Greater) (get_or_from_slice_get (e ∷ es) 0 f e is) above
    before_here (e ∷ es) (suc i) s h (suc j) f lt is = before_here es i (both_true (below_all R e.0 es) _ s).1 (record { within = omega (arith, h.within); here = h.here }) j f (omega (arith, lt)) is

    count_at : (es : List (K × ℕ)) (i : ℕ) (d : K × ℕ) → i < length es → Below es k i → ((e : K × ℕ) → slice_get es i ≡ Some e → R k e.0 ≡ Equal) → count R es k ≡ (get_or es i d).1
    count_at [] i d lt below here = absurd (omega (arith, lt))
    count_at (e ∷ es) zero d lt below here = ap (λ r. unwrap_or (cond (is_eq r) (Some e.1) (find R k es)) 0) (here e refl)
    count_at (e ∷ es) (suc i) d lt below here = ap (λ r. unwrap_or (cond (is_eq r) (Some e.1) (find R k es)) 0) (below 0 e (omega arith) refl) ∙ count_at es i d (omega (arith, lt)) (shorter e es k i below) here

    pub count_here : (es : List (K × ℕ)) (i : ℕ) (d : K × ℕ) → T (is_sorted R es) → IsHere R es k i → count R es k ≡ (get_or es i d).1
    count_here es i d s h = count_at es i d h.within (before_here es i s h) h.here

    absent_at : (es : List (K × ℕ)) (i : ℕ) → T (is_sorted R es) → Below es k i → ((e : K × ℕ) → slice_get es i ≡ Some e → R k e.0 ≡ Less) → count R es k ≡ 0
    absent_at [] i s below above = refl
    absent_at (e ∷ es) zero s below above = ap (λ r. unwrap_or (cond (is_eq r) (Some e.1) (find R k es)) 0) (above e refl) ∙ ap (λ r. unwrap_or r 0) (find_below_head o k e es (above e refl) (both_true (below_all R e.0 es) _ s).0)
    absent_at (e ∷ es) (suc i) s below above = ap (λ r. unwrap_or (cond (is_eq r) (Some e.1) (find R k es)) 0) (below 0 e (omega arith) refl) ∙ absent_at es i (both_true (below_all R e.0 es) _ s).1 (shorter e es k i below) above

    pub count_gap : (es : List (K × ℕ)) (i : ℕ) → T (is_sorted R es) → IsGap R es k i → count R es k ≡ 0
    count_gap es i s h = absent_at es i s h.before h.above

    module _ (same : (x y : K) → R x y ≡ Equal → x ≡ y) where
      put_at : (n : ℕ) (es : List (K × ℕ)) (i : ℕ) → Below es k i → i < length es → ((e : K × ℕ) → slice_get es i ≡ Some e → R k e.0 ≡ Equal) → put R k n es ≡ set es i (k, n)
      put_at n [] i below lt here = absurd (omega (arith, lt))
      put_at n (e ∷ es) zero below lt here = ap (λ r. by_order r ((k, n) ∷ e ∷ es) ((e.0, n) ∷ es) (e ∷ put R k n es)) (here e refl) ∙ ap (λ x. (x, n) ∷ es) (sym (same k e.0 (here e refl)))
      put_at n (e ∷ es) (suc i) below lt here = ap (λ r. by_order r ((k, n) ∷ e ∷ es) ((e.0, n) ∷ es) (e ∷ put R k n es)) (below 0 e (omega arith) refl) ∙ ap (λ l. e ∷ l) (put_at n es i (shorter e es k i below) (omega (arith, lt)) here)

      -- a number that is not 0 is written over the one that is there
      pub set_here : (n : ℕ) (es : List (K × ℕ)) (i : ℕ) → 0 < n → T (is_sorted R es) → IsHere R es k i → set_count R es k n ≡ set es i (k, n)
      set_here n es i more s h =
          let t : nat_eq n 0 ≡ false = grind (arith, nat_tests) in
          ap (λ b. cond b (where_key R (λ x. not (eq_by_cmp R k x)) es) (put R k n es)) t ∙ put_at n es i (before_here es i s h) h.within h.here

    put_between : (n : ℕ) (es : List (K × ℕ)) (i : ℕ) → i ≤ length es → Below es k i → ((e : K × ℕ) → slice_get es i ≡ Some e → R k e.0 ≡ Less) → put R k n es ≡ insert es i (k, n)
    put_between n [] zero le below above = refl
    put_between n [] (suc i) le below above = absurd (omega (arith, le))
    put_between n (e ∷ es) zero le below above = ap (λ r. by_order r ((k, n) ∷ e ∷ es) ((e.0, n) ∷ es) (e ∷ put R k n es)) (above e refl)
    put_between n (e ∷ es) (suc i) le below above = ap (λ r. by_order r ((k, n) ∷ e ∷ es) ((e.0, n) ∷ es) (e ∷ put R k n es)) (below 0 e (omega arith) refl) ∙ ap (λ l. e ∷ l) (put_between n es i (omega (arith, le)) (shorter e es k i below) above)

    -- or put into the gap
    pub set_gap : (n : ℕ) (es : List (K × ℕ)) (i : ℕ) → 0 < n → IsGap R es k i → set_count R es k n ≡ insert es i (k, n)
    set_gap n es i more h =
        let t : nat_eq n 0 ≡ false = grind (arith, nat_tests) in
        ap (λ b. cond b (where_key R (λ x. not (eq_by_cmp R k x)) es) (put R k n es)) t ∙ put_between n es i h.within h.before h.above

    drop_at : (es : List (K × ℕ)) (i : ℕ) → T (is_sorted R es) → i < length es → Below es k i → ((e : K × ℕ) → slice_get es i ≡ Some e → R k e.0 ≡ Equal) → where_key R (λ x. not (eq_by_cmp R k x)) es ≡ remove es i
    drop_at [] i s lt below here = absurd (omega (arith, lt))
    drop_at (e ∷ es) zero s lt below here = ap (λ r. cond (not (is_eq r)) (e ∷ where_key R (λ x. not (eq_by_cmp R k x)) es) (where_key R (λ x. not (eq_by_cmp R k x)) es)) (here e refl) ∙ keep_tied k e es (here e refl) (both_true (below_all R e.0 es) _ s).0
    drop_at (e ∷ es) (suc i) s lt below here = ap (λ r. cond (not (is_eq r)) (e ∷ where_key R (λ x. not (eq_by_cmp R k x)) es) (where_key R (λ x. not (eq_by_cmp R k x)) es)) (below 0 e (omega arith) refl) ∙ ap (λ l. e ∷ l) (drop_at es i (both_true (below_all R e.0 es) _ s).1 (omega (arith, lt)) (shorter e es k i below) here)

    nothing_at : (es : List (K × ℕ)) (i : ℕ) → T (is_sorted R es) → Below es k i → ((e : K × ℕ) → slice_get es i ≡ Some e → R k e.0 ≡ Less) → where_key R (λ x. not (eq_by_cmp R k x)) es ≡ es
    nothing_at [] i s below above = refl
    nothing_at (e ∷ es) zero s below above = ap (λ r. cond (not (is_eq r)) (e ∷ where_key R (λ x. not (eq_by_cmp R k x)) es) (where_key R (λ x. not (eq_by_cmp R k x)) es)) (above e refl) ∙ ap (λ l. e ∷ l) (keep_above k e es (above e refl) (both_true (below_all R e.0 es) _ s).0)
    nothing_at (e ∷ es) (suc i) s below above = ap (λ r. cond (not (is_eq r)) (e ∷ where_key R (λ x. not (eq_by_cmp R k x)) es) (where_key R (λ x. not (eq_by_cmp R k x)) es)) (below 0 e (omega arith) refl) ∙ ap (λ l. e ∷ l) (nothing_at es i (both_true (below_all R e.0 es) _ s).1 (shorter e es k i below) above)

    at_zero : (es : List (K × ℕ)) (n : ℕ) → n ≡ 0 → set_count R es k n ≡ where_key R (λ x. not (eq_by_cmp R k x)) es
    at_zero es n e = let t : nat_eq n 0 ≡ true = grind (arith, nat_tests) in ap (λ b. cond b (where_key R (λ x. not (eq_by_cmp R k x)) es) (put R k n es)) t

    -- 0 removes the entry, and changes nothing where there is none
    pub drop_here : (n : ℕ) (es : List (K × ℕ)) (i : ℕ) → n ≡ 0 → T (is_sorted R es) → IsHere R es k i → set_count R es k n ≡ remove es i
    drop_here n es i zero_is s h = at_zero es n zero_is ∙ drop_at es i s h.within (before_here es i s h) h.here

    pub drop_gap : (n : ℕ) (es : List (K × ℕ)) (i : ℕ) → n ≡ 0 → T (is_sorted R es) → IsGap R es k i → set_count R es k n ≡ es
    drop_gap n es i zero_is s h = at_zero es n zero_is ∙ nothing_at es i s h.before h.above

-- Whether keys rise, pair by pair.
use Rattle.std.proofs.Common.{◌≡◌, ℕ, suc, ◌-◌, ◌<◌, ◌≤◌, Bool, true, false, List, [], ◌∷◌, length, get_or, drop, refl, sym, ◌∙◌, ap, subst, arith, drop-cons}
use Rattle.std.specs.Prelude.{T, ◌&&◌}
use Rattle.std.specs.Ordering.{is_lt}
use Rattle.std.specs.Cmp.{IsTotalOrder}
use Rattle.std.specs.declared.cmp.Ordering.{Ordering}
use Rattle.std.specs.declared.cmp.Ordering.TheVariants.{Less, Equal, Greater}
use Rattle.std.specs.FinMap.Entries.{below_all, is_sorted}
use Rattle.std.proofs.lemmas.List.{length-drop}
use Rattle.fuxi_terms.proofs.CountsLemmas.{both_true, lesser}
use Rattle.fuxi_terms.proofs.OneChangeMore.{both}
use Rattle.fuxi_terms.proofs.Booleans.{and_false}

pub is_less : (r : Ordering) → is_lt r ≡ true → r ≡ Less
is_less r e = lesser r (subst T (sym e) tt)

pub not_risen : (r : Ordering) → is_lt r ≡ false → r ≡ Less → ⊥
not_risen Less e h = cc
not_risen Equal e h = cc
not_risen Greater e h = cc

is_true : (b : Bool) → T b → b ≡ true
is_true true p = refl
is_true false p = absurd p

module _ {K X : Type 0} {R : K → K → Ordering} (o : IsTotalOrder R) where
  below_through : (x y : K) (es : List (K × X)) → R x y ≡ Less → T (below_all R y es) → T (below_all R x es)
  below_through x y [] lt h = tt
  below_through x y (e ∷ es) lt h =
      let b = both_true (is_lt (R y e.0)) _ h in
      both (is_lt (R x e.0)) _ (subst (λ r. T (is_lt r)) (sym (o.trans x y e.0 lt (lesser _ b.0))) tt) (below_through x y es lt b.1)

  -- a lower key before keys that rise
  sorted_two : (e f : K × X) (es : List (K × X)) → R e.0 f.0 ≡ Less → is_sorted R (f ∷ es) ≡ is_sorted R (e ∷ f ∷ es)
  sorted_two e f es lt =
      elim (is_sorted R (f ∷ es)) as (λ b. is_sorted R (f ∷ es) ≡ b → b ≡ (below_all R e.0 (f ∷ es) && b)) [
        | true ↦ λ t.
            let parts = both_true (below_all R f.0 es) _ (subst T (sym t) tt) in
            sym (is_true _ (both (below_all R e.0 (f ∷ es)) true (both (is_lt (R e.0 f.0)) _ (subst (λ r. T (is_lt r)) (sym lt) tt) (below_through e.0 f.0 es lt parts.0)) tt))
        | false ↦ λ t. sym (and_false (below_all R e.0 (f ∷ es)))
      ] refl

  pub rise_more : (es : List (K × X)) (i j : ℕ) (d d' : K × X) → suc i ≡ j → j < length es → R (get_or es i d).0 (get_or es j d').0 ≡ Less → is_sorted R (drop j es) ≡ is_sorted R (drop i es)
  rise_more es i j d d' next lt less =
      let here = drop-cons es j d' lt in
      let before : drop i es ≡ get_or es i d ∷ drop j es = drop-cons es i d (omega arith) ∙ ap (λ n. get_or es i d ∷ drop n es) next in
      ap (is_sorted R) here ∙ sorted_two (get_or es i d) (get_or es j d') (drop (suc j) es) less ∙ ap (λ es'. is_sorted R (get_or es i d ∷ es')) (sym here) ∙ ap (is_sorted R) (sym before)

  -- a pair that does not rise
  pub rise_stops : (es : List (K × X)) (i j : ℕ) (d d' : K × X) → suc i ≡ j → j < length es → is_lt (R (get_or es i d).0 (get_or es j d').0) ≡ false → false ≡ is_sorted R (drop i es)
  rise_stops es i j d d' next lt stop =
      let here = drop-cons es j d' lt in
      let before : drop i es ≡ get_or es i d ∷ get_or es j d' ∷ drop (suc j) es = drop-cons es i d (omega arith) ∙ ap (λ n. get_or es i d ∷ drop n es) next ∙ ap (λ es'. get_or es i d ∷ es') here in
      sym (ap (is_sorted R) before ∙ ap (λ b. (b && below_all R (get_or es i d).0 (drop (suc j) es)) && is_sorted R (get_or es j d' ∷ drop (suc j) es)) stop)

  sorted_short : (es : List (K × X)) → length es ≤ 1 → is_sorted R es ≡ true
  sorted_short [] le = refl
  sorted_short (e ∷ []) le = refl
  sorted_short (e ∷ f ∷ es) le = absurd (omega (arith, le))

  pub rise_all : (es : List (K × X)) (i : ℕ) → length es ≤ i → is_sorted R (drop (i - 1) es) ≡ is_sorted R es → true ≡ is_sorted R es
  rise_all es i le so_far = sym (sorted_short (drop (i - 1) es) (omega (arith, length-drop (i - 1) es))) ∙ so_far

-- What a binary search among entries in order finds.
use Rattle.std.proofs.Common.{◌≡◌, ℕ, zero, suc, ◌+◌, ◌-◌, ◌<◌, ◌≤◌, List, [], ◌∷◌, length, slice_get, get_or, Some, Result, Ok, Err, sym, ◌∙◌, ap, subst, arith, add-one}
use Rattle.std.specs.Prelude.{T}
use Rattle.std.specs.Ordering.{is_lt, ordering_reverse, ordering_index}
use Rattle.std.specs.Cmp.{IsTotalOrder, tied_back}
use Rattle.std.specs.declared.cmp.Ordering.{Ordering}
use Rattle.std.specs.declared.cmp.Ordering.TheVariants.{Less, Equal, Greater}
use Rattle.std.specs.FinMap.Entries.{below_all, is_sorted}
use Rattle.std.specs.List.Sorted.{IsSearchInRange, IsBinarySearchResult, IsNonDecreasingBy}
use Rattle.std.proofs.lemmas.List.Sorted.{searchable_from_sorted}
use Rattle.std.proofs.lemmas.Option.{get_or_from_slice_get, slice_get_within}
use Rattle.fuxi_terms.proofs.CountsLemmas.{both_true, lesser}
use Rattle.ledger_law.specs.Places.{IsPlace, IsGap}
use Rattle.ledger_law.proofs.PlacesLemmas.{below_at}

module _ {K X : Type 0} (R : K → K → Ordering) where
  -- a key is below the next one
  pub neighbours : (es : List (K × X)) (i : ℕ) (d : K × X) → T (is_sorted R es) → suc i < length es → R (get_or es i d).0 (get_or es (suc i) d).0 ≡ Less
  neighbours [] i d s lt = absurd (omega (arith, lt))
  neighbours (e ∷ []) i d s lt = absurd (omega (arith, lt))
  neighbours (e ∷ f ∷ es) zero d s lt = lesser _ (both_true (is_lt (R e.0 f.0)) _ (both_true (below_all R e.0 (f ∷ es)) _ s).0).0
  neighbours (e ∷ f ∷ es) (suc i) d s lt = neighbours (f ∷ es) i d (both_true (below_all R e.0 (f ∷ es)) _ s).1 (omega (arith, lt))

module _ {K : Type 0} {R : K → K → Ordering} (o : IsTotalOrder R) (k : K) where
  rises : (es : List (K × ℕ)) → T (is_sorted R es) → IsNonDecreasingBy (λ e. ordering_index (R e.0 k)) es
  rises es s = searchable_from_sorted o (λ e. e.0) es k (λ i d _ lt.
      let next : R (get_or es i d).0 (get_or es (i + 1) d).0 ≡ Less = subst (λ j. R (get_or es i d).0 (get_or es j d).0 ≡ Less) (sym (add-one i)) (neighbours R es i d s (omega (arith, lt))) in
      ap is_lt (o.antisymm _ _ ∙ ap ordering_reverse next))

  pub searched : (es : List (K × ℕ)) → T (is_sorted R es) → (r : Result ℕ ℕ) → IsSearchInRange r (length es) → IsBinarySearchResult (λ e. R e.0 k) es r → IsPlace R es k r
  searched es s (Ok at) in_range tie = record {
    within = in_range;
    here = λ e is. tied_back o e.0 k (subst (λ x. R x.0 k ≡ Equal) (get_or_from_slice_get es at e e is) (tie e));
  }
  searched es s (Err at) in_range parted = record {
    within = in_range;
    before = λ j e lt is. o.antisymm k e.0 ∙ ap ordering_reverse (subst (λ x. R x.0 k ≡ Less) (get_or_from_slice_get es j e e is) ((parted (rises es s)).0 j e (omega arith) lt));
    above = λ e is. o.antisymm k e.0 ∙ ap ordering_reverse (subst (λ x. R x.0 k ≡ Greater) (get_or_from_slice_get es at e e is) ((parted (rises es s)).1 at e (omega arith) (slice_get_within es at e is)));
  }

  -- where an entry's key is below, so are those in front of it
  front_below : (es : List (K × ℕ)) (n : ℕ) (l : K × ℕ) → T (is_sorted R es) → slice_get es n ≡ Some l → R l.0 k ≡ Less → (j : ℕ) (e : K × ℕ) → j ≤ n → slice_get es j ≡ Some e → R e.0 k ≡ Less
  front_below [] n l s at less j e le is = absurd (omega (arith, slice_get_within [] n l at))
  front_below (x ∷ es) zero l s at less zero e le is = subst (λ y. R y.0 k ≡ Less) (sym (get_or_from_slice_get (x ∷ es) 0 l x at) ∙ get_or_from_slice_get (x ∷ es) 0 e x is) less
  front_below (x ∷ es) zero l s at less (suc j) e le is = absurd (omega (arith, le))
  front_below (x ∷ es) (suc n) l s at less zero e le is =
      let first : R x.0 l.0 ≡ Less = subst (λ y. R x.0 y.0 ≡ Less) (get_or_from_slice_get es n l l at) (below_at o x.0 es n l (slice_get_within es n l at) (both_true (below_all R x.0 es) _ s).0) in
      subst (λ y. R y.0 k ≡ Less) (get_or_from_slice_get (x ∷ es) 0 e x is) (o.trans x.0 l.0 k first less)
  front_below (x ∷ es) (suc n) l s at less (suc j) e le is = front_below es n l (both_true (below_all R x.0 es) _ s).1 at less j e (omega (arith, le)) is

  -- a key above the last one stands behind all
  pub behind_last : (es : List (K × ℕ)) (l : K × ℕ) → T (is_sorted R es) → slice_get es (length es - 1) ≡ Some l → R l.0 k ≡ Less → IsGap R es k (length es)
  behind_last es l s at less = record {
    within = omega arith;
    before = λ j e lt is. o.antisymm k e.0 ∙ ap ordering_reverse (front_below es (length es - 1) l s at less j e (omega (arith, lt)) is);
    above = λ e is. absurd (omega (arith, slice_get_within es (length es) e is));
  }

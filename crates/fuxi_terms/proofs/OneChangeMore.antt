-- A list of changes with one more behind it.
use Rattle.std.proofs.Common.{◌≡◌, Bool, true, false, List, [], ◌∷◌, ◌++◌, sym, subst}
use Rattle.std.specs.Prelude.{ℤ, T, ◌&&◌}
use Rattle.std.specs.List.{All, AllByRecursion}
use Rattle.std.specs.Ordering.{is_lt}
use Rattle.std.specs.declared.cmp.Ordering.{Ordering}
use Rattle.std.specs.declared.cmp.Ordering.TheVariants.{Less}
use Rattle.std.specs.FinMap.Entries.{below_all, is_sorted}
use Rattle.std.proofs.lemmas.List.Elements.{recursion_from_All}
use Rattle.fuxi_terms.specs.Counts.{AreChanges, is_no_change}
use Rattle.fuxi_terms.proofs.CountsLemmas.{both_true}
use Rattle.fuxi_terms.proofs.Lists.{all_push}

pub both : (a b : Bool) → T a → T b → T (a && b)
both true b p q = q
both false b p q = p

module _ {K X : Type 0} (R : K → K → Ordering) where
  below_push : (x : K) (es : List (K × X)) (k : K) (v : X) → T (below_all R x es) → R x k ≡ Less → T (below_all R x (es ++ (k, v) ∷ []))
  below_push x [] k v h lt = both (is_lt (R x k)) true (subst (λ r. T (is_lt r)) (sym lt) tt) tt
  below_push x (e ∷ es) k v h lt = let b = both_true (is_lt (R x e.0)) _ h in both (is_lt (R x e.0)) _ b.0 (below_push x es k v b.1 lt)

  -- a greater key behind keys that rise
  pub sorted_push : (es : List (K × X)) (k : K) (v : X) → T (is_sorted R es) → AllByRecursion (λ e. R e.0 k ≡ Less) es → T (is_sorted R (es ++ (k, v) ∷ []))
  sorted_push [] k v s h = tt
  sorted_push (e ∷ es) k v s h = let b = both_true (below_all R e.0 es) _ s in both (below_all R e.0 (es ++ (k, v) ∷ [])) _ (below_push e.0 es k v b.0 h.0) (sorted_push es k v b.1 h.1)

pub changes_push : {K : Type 0} (R : K → K → Ordering) (cs : List (K × ℤ)) (k : K) (change : ℤ) → AreChanges R cs → is_no_change change ≡ false → All (λ e. R e.0 k ≡ Less) cs → AreChanges R (cs ++ (k, change) ∷ [])
changes_push R cs k change h real rises = record {
  sorted = sorted_push R cs k change h.sorted (recursion_from_All _ cs rises);
  real = all_push _ cs (k, change) h.real real;
}

-- Lists of counts that a test finds the same.
use Rattle.std.proofs.Common.{◌≡◌, ℕ, true, nat_eq, List, [], ◌∷◌, refl, ap}
use Rattle.std.specs.Prelude.{◌&&◌}
use Rattle.std.specs.Ordering.{eq_by_cmp, is_eq}
use Rattle.std.specs.Cmp.{IsTotalOrder, tied_itself}
use Rattle.std.specs.declared.cmp.Ordering.{Ordering}
use Rattle.std.specs.declared.cmp.Ordering.TheVariants.{Equal}
use Rattle.fuxi_terms.specs.Counts.{is_same}
use Rattle.fuxi_terms.proofs.CountsLemmas.{tied}
use Rattle.fuxi_terms.proofs.Booleans.{both_true, number_is, nat_itself, and_true}

-- entries that a test finds the same are the same, and the test finds them the same
pub same_entries : {K : Type 0} (R : K → K → Ordering) → ((x y : K) → R x y ≡ Equal → x ≡ y) → (es fs : List (K × ℕ)) → is_same R es fs ≡ true → es ≡ fs
same_entries R exact [] [] t = refl
same_entries R exact [] (f ∷ fs) t = cc
same_entries R exact (e ∷ es) [] t = cc
same_entries R exact (e ∷ es) (f ∷ fs) t =
    let h = both_true (eq_by_cmp R e.0 f.0) (nat_eq e.1 f.1 && is_same R es fs) t in
    let k = both_true (nat_eq e.1 f.1) (is_same R es fs) h.1 in
    let a = exact e.0 f.0 (tied _ h.0) in
    let b = number_is e.1 f.1 k.0 in
    let c = same_entries R exact es fs k.1 in
    λ i. (a i, b i) ∷ c i

pub same_itself : {K : Type 0} {R : K → K → Ordering} → IsTotalOrder R → (es : List (K × ℕ)) → is_same R es es ≡ true
same_itself o [] = refl
same_itself {R = R} o (e ∷ es) = and_true (eq_by_cmp R e.0 e.0) _ (ap is_eq (tied_itself o e.0)) (and_true (nat_eq e.1 e.1) _ (nat_itself e.1) (same_itself o es))

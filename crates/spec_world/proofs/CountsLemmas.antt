-- Lists of counts: wider bounds, a number put in, keys that are mapped, and lists one behind the other.
use Rattle.std.proofs.Common.{◌≡◌, ℕ, ◌<◌, ◌≤◌, Bool, true, false, cond, not, nat_eq, List, [], ◌∷◌, ◌++◌, map, filter, refl, sym, subst, arith}
use Rattle.std.specs.Prelude.{◌&&◌, T}
use Rattle.std.specs.List.{AllByRecursion}
use Rattle.std.specs.Ordering.{is_lt, eq_by_cmp}
use Rattle.std.specs.Cmp.{IsTotalOrder}
use Rattle.std.specs.declared.cmp.Ordering.{Ordering}
use Rattle.std.specs.declared.cmp.Ordering.TheVariants.{Less, Equal}
use Rattle.std.specs.FinMap.Entries.{below_all, is_sorted, put, where_key}
use Rattle.std.proofs.lemmas.Bool.Decides.{nat_tests}
use Rattle.fuxi_terms.specs.Counts.{AreCounts}
use Rattle.fuxi_terms.proofs.CountsLemmas.{both_true as both, lesser, counts-set_count}
use Rattle.fuxi_terms.proofs.Alls.{all_append}

pub and_both : (a b : Bool) → T a → T b → T (a && b)
and_both true b p q = q
and_both false b p q = absurd p

module _ {K : Type 0} (R : K → K → Ordering) where
  all_wider : (g h : K → ℕ) → ((k : K) (n : ℕ) → 0 < n → n ≤ g k → n ≤ h k) → (es : List (K × ℕ)) → AllByRecursion (λ e. 0 < e.1) es → AllByRecursion (λ e. e.1 ≤ g e.0) es → AllByRecursion (λ e. e.1 ≤ h e.0) es
  all_wider g h le [] p w = tt
  all_wider g h le (e ∷ es) p w = (le e.0 e.1 p.0 w.0, all_wider g h le es p.1 w.1)

  -- what is within one bound is within another
  pub counts_wider : (g h : K → ℕ) → ((k : K) (n : ℕ) → 0 < n → n ≤ g k → n ≤ h k) → (es : List (K × ℕ)) → AreCounts R g es → AreCounts R h es
  counts_wider g h le es c = record { sorted = c.sorted; positive = c.positive; within = all_wider g h le es c.positive c.within }

  -- one list behind another
  -- what is below both is below them together
  pub below_append : (k : K) (xs ys : List (K × ℕ)) → T (below_all R k xs) → T (below_all R k ys) → T (below_all R k (xs ++ ys))
  below_append k [] ys p q = q
  below_append k (x ∷ xs) ys p q = let b = both (is_lt (R k x.0)) (below_all R k xs) p in and_both (is_lt (R k x.0)) (below_all R k (xs ++ ys)) b.0 (below_append k xs ys b.1 q)

  sorted_append : (xs ys : List (K × ℕ)) → T (is_sorted R xs) → T (is_sorted R ys) → AllByRecursion (λ x. T (below_all R x.0 ys)) xs → T (is_sorted R (xs ++ ys))
  sorted_append [] ys p q h = q
  sorted_append (x ∷ xs) ys p q h = let b = both (below_all R x.0 xs) (is_sorted R xs) p in and_both (below_all R x.0 (xs ++ ys)) (is_sorted R (xs ++ ys)) (below_append x.0 xs ys b.0 h.0) (sorted_append xs ys b.1 q h.1)

  pub counts_append : (g : K → ℕ) (xs ys : List (K × ℕ)) → AreCounts R g xs → AreCounts R g ys → AllByRecursion (λ x. T (below_all R x.0 ys)) xs → AreCounts R g (xs ++ ys)
  counts_append g xs ys c d h = record {
    sorted = sorted_append xs ys c.sorted d.sorted h;
    positive = all_append (λ e. 0 < e.1) xs ys c.positive d.positive;
    within = all_append (λ e. e.1 ≤ g e.0) xs ys c.within d.within;
  }

-- a number is put in
pub counts_put : {K : Type 0} {R : K → K → Ordering} (o : IsTotalOrder R) (g : K → ℕ) → ((x y : K) → R x y ≡ Equal → x ≡ y) → (es : List (K × ℕ)) (k : K) (n : ℕ) → 0 < n → n ≤ g k → AreCounts R g es → AreCounts R g (put R k n es)
counts_put {R = R} o g same es k n some le c =
    let no : nat_eq n 0 ≡ false = grind (arith, nat_tests, some) in
    subst (λ b. AreCounts R g (cond b (where_key R (λ x. not (eq_by_cmp R k x)) es) (put R k n es))) no (counts-set_count o g same es k n le c)

-- keys that pass a test are mapped, in their order
module _ {K L : Type 0} (R : K → K → Ordering) (S : L → L → Ordering) (f : K → L) (p : K → Bool) (keeps : (a b : K) → p a ≡ true → p b ≡ true → R a b ≡ Less → S (f a) (f b) ≡ Less) where
  below_mapped : (x : K) → p x ≡ true → (es : List (K × ℕ)) → T (below_all R x es) → T (below_all S (f x) (map (λ e. (f e.0, e.1)) (filter (λ e. p e.0) es)))
  below_mapped x px [] h = tt
  below_mapped x px (e ∷ es) h =
      let b = both (is_lt (R x e.0)) (below_all R x es) h in
      let rest = below_mapped x px es b.1 in
      elim (p e.0) as (λ t. p e.0 ≡ t → T (below_all S (f x) (map (λ e. (f e.0, e.1)) (cond t (e ∷ filter (λ e. p e.0) es) (filter (λ e. p e.0) es))))) [
        | true ↦ λ t. and_both (is_lt (S (f x) (f e.0))) _ (subst (λ r. T (is_lt r)) (sym (keeps x e.0 px t (lesser _ b.0))) tt) rest
        | false ↦ λ _. rest
      ] refl

  sorted_mapped : (es : List (K × ℕ)) → T (is_sorted R es) → T (is_sorted S (map (λ e. (f e.0, e.1)) (filter (λ e. p e.0) es)))
  sorted_mapped [] h = tt
  sorted_mapped (e ∷ es) h =
      let b = both (below_all R e.0 es) (is_sorted R es) h in
      let rest = sorted_mapped es b.1 in
      elim (p e.0) as (λ t. p e.0 ≡ t → T (is_sorted S (map (λ e. (f e.0, e.1)) (cond t (e ∷ filter (λ e. p e.0) es) (filter (λ e. p e.0) es))))) [
        | true ↦ λ t. and_both (below_all S (f e.0) _) _ (below_mapped e.0 t es b.0) rest
        | false ↦ λ _. rest
      ] refl

  -- what holds of each entry that passes holds of what is made of it
  pub all_kept : (P : K × ℕ → Type 0) (Q : L × ℕ → Type 0) → ((e : K × ℕ) → p e.0 ≡ true → P e → Q (f e.0, e.1)) → (es : List (K × ℕ)) → AllByRecursion P es → AllByRecursion Q (map (λ e. (f e.0, e.1)) (filter (λ e. p e.0) es))
  all_kept P Q q [] h = tt
  all_kept P Q q (e ∷ es) h =
      let rest = all_kept P Q q es h.1 in
      elim (p e.0) as (λ t. p e.0 ≡ t → AllByRecursion Q (map (λ e. (f e.0, e.1)) (cond t (e ∷ filter (λ e. p e.0) es) (filter (λ e. p e.0) es)))) [
        | true ↦ λ t. (q e t h.0, rest)
        | false ↦ λ _. rest
      ] refl

  pub counts_mapped : (g : K → ℕ) (h : L → ℕ) → ((k : K) (n : ℕ) → p k ≡ true → 0 < n → n ≤ g k → n ≤ h (f k)) → (es : List (K × ℕ)) → AreCounts R g es → AreCounts S h (map (λ e. (f e.0, e.1)) (filter (λ e. p e.0) es))
  counts_mapped g h le es c = record {
    sorted = sorted_mapped es c.sorted;
    positive = all_kept (λ e. 0 < e.1) (λ e. 0 < e.1) (λ e _ s. s) es c.positive;
    within = all_kept (λ e. (0 < e.1) × (e.1 ≤ g e.0)) (λ e. e.1 ≤ h e.0) (λ e t s. le e.0 e.1 t s.0 s.1) es (pairs es c.positive c.within);
  }
    where
      pairs : (es : List (K × ℕ)) → AllByRecursion (λ e. 0 < e.1) es → AllByRecursion (λ e. e.1 ≤ g e.0) es → AllByRecursion (λ e. (0 < e.1) × (e.1 ≤ g e.0)) es
      pairs [] a b = tt
      pairs (e ∷ es) a b = ((a.0, b.0), pairs es a.1 b.1)

-- Each entry of a map once: a walk over rising keys among which those of the map are, with what is found at each, is a walk over the map.
use Rattle.std.proofs.Common.{◌≡◌, ℕ, zero, suc, ◌<◌, ◌≤◌, Bool, true, false, cond, nat_eq, T, List, [], ◌∷◌, ◌++◌, map, Some, None, is_some, refl, sym, ◌∙◌, ap, subst, arith}
use Rattle.std.specs.Prelude.{⊤, ◌||◌, ◌&&◌}
use Rattle.std.specs.List.{AllByRecursion, flat_map, list_any}
use Rattle.std.specs.Ordering.{nat_cmp, eq_by_cmp, is_eq, is_lt, ordering_reverse}
use Rattle.std.specs.Cmp.{IsTotalOrder, nat_cmp_total, nat_cmp_is, unsigned_tied}
use Rattle.std.specs.declared.cmp.Ordering.{Ordering}
use Rattle.std.specs.declared.cmp.Ordering.TheVariants.{Less, Equal, Greater}
use Rattle.std.specs.FinMap.Entries.{find, is_sorted, below_all}
use Rattle.std.proofs.lemmas.Bool.Decides.{nat_tests}
use Rattle.std.proofs.lemmas.Map.Lookups.{exact_unsigned}
use Rattle.std.proofs.lemmas.List.Folds.{list_any-append}
use Rattle.fuxi_terms.specs.Lists.{below}
use Rattle.fuxi_terms.proofs.Alls.{all_append}
use Rattle.fuxi_terms.proofs.Booleans.{or_left, or_right, eq_turned}
use Rattle.fuxi_terms.proofs.CountsLemmas.{both_true, lesser, find_below_head}
use Rattle.fuxi_terms.specs.Jobs.{KnownJob, job_of, is_known, job_numbers}
use Rattle.fuxi_terms.specs.Numbers.{has_number}
use Rattle.spec_roles.specs.Refusals.{with_found}
use Rattle.spec_world.specs.Orders.{Rise}
use Rattle.fuxi_terms.proofs.NumbersLemmas.{with_is, with_rises}

-- keys that rise: each is below all behind it
abbrev pub Rising : {K : Type 0} → (K → K → Ordering) → List K → Type 0
Rising R [] = ⊤
Rising R (k ∷ ks) = AllByRecursion (λ q. R k q ≡ Less) ks × Rising R ks

abbrev pub is_among : {K : Type 0} → (K → K → Ordering) → List K → K → Bool
is_among R ks k = list_any (eq_by_cmp R k) ks

module _ {K X L : Type 0} {R : K → K → Ordering} (o : IsTotalOrder R) (exact : (x y : K) → R x y ≡ Equal → x ≡ y) (F : K → X → List L) where
  -- what is found at a key
  abbrev pub found_at : List (K × X) → K → List L
  found_at es k = with_found (find R k es) [] (F k)

  none_found : (ks : List K) → flat_map (found_at []) ks ≡ []
  none_found [] = refl
  none_found (k ∷ ks) = none_found ks

  apart : (x y : K) → R x y ≡ Less → eq_by_cmp R y x ≡ false
  apart x y lt = ap is_eq (o.antisymm y x ∙ ap ordering_reverse lt)

  -- keys above one are found behind it
  skips : (e : K × X) (es : List (K × X)) (ks : List K) → AllByRecursion (λ q. R e.0 q ≡ Less) ks → flat_map (found_at (e ∷ es)) ks ≡ flat_map (found_at es) ks
  skips e es [] h = refl
  skips e es (k ∷ ks) h = let here : eq_by_cmp R k e.0 ≡ false = apart e.0 k h.0 in let rest = skips e es ks h.1 in
      λ i. with_found (cond (here i) (Some e.1) (find R k es)) [] (F k) ++ rest i

  -- a key below all is none of them
  not_first : (k : K) (ks : List K) (q : K) → R k q ≡ Less → is_among R (k ∷ ks) q ≡ true → is_among R ks q ≡ true
  not_first k ks q lt is = sym (ap (λ b. b || is_among R ks q) (apart k q lt)) ∙ is

  all_behind : (k : K) (ks : List K) (es : List (K × X)) → T (below_all R k es) → AllByRecursion (λ e. is_among R (k ∷ ks) e.0 ≡ true) es → AllByRecursion (λ e. is_among R ks e.0 ≡ true) es
  all_behind k ks [] b h = tt
  all_behind k ks (e ∷ es) b h = let t = both_true (is_lt (R k e.0)) _ b in (not_first k ks e.0 (lesser _ t.0) h.0, all_behind k ks es t.1 h.1)

  below_more : (k q : K) (es : List (K × X)) → R k q ≡ Less → T (below_all R q es) → T (below_all R k es)
  below_more k q [] lt b = tt
  below_more k q (e ∷ es) lt b = let t = both_true (is_lt (R q e.0)) _ b in
      let here : R k e.0 ≡ Less = o.trans k q e.0 lt (lesser _ t.0) in
      subst (λ r. T (is_lt r && below_all R k es)) (sym here) (below_more k q es lt t.1)

  -- what is below all of them is none
  not_among : (q : K) (ks : List K) → AllByRecursion (λ k. R q k ≡ Less) ks → is_among R ks q ≡ true → ⊥
  not_among q [] h is = cc
  not_among q (k ∷ ks) h is = not_among q ks h.1 (sym (ap (λ r. is_eq r || is_among R ks q) h.0) ∙ is)

  all_above : (q k : K) (ks : List K) → R q k ≡ Less → AllByRecursion (λ x. R k x ≡ Less) ks → AllByRecursion (λ x. R q x ≡ Less) ks
  all_above q k [] lt h = tt
  all_above q k (x ∷ xs) lt h = (o.trans q k x lt h.0, all_above q k xs lt h.1)

  pub each_once : (ks : List K) (es : List (K × X)) → Rising R ks → T (is_sorted R es) → AllByRecursion (λ e. is_among R ks e.0 ≡ true) es → flat_map (found_at es) ks ≡ flat_map (λ e. F e.0 e.1) es
  each_once [] [] r s m = refl
  each_once [] (e ∷ es) r s m = cc
  each_once (k ∷ ks) [] r s m = none_found (k ∷ ks)
  each_once (k ∷ ks) (e ∷ es) r s m = by (R k e.0) refl (λ h. each_once ks (e ∷ es) r.1 s h) (λ h. each_once ks es r.1 (both_true (below_all R e.0 es) _ s).1 h)
    where
      sorted : T (below_all R e.0 es) × T (is_sorted R es)
      sorted = both_true (below_all R e.0 es) _ s

      by : (t : Ordering) → R k e.0 ≡ t → (AllByRecursion (λ e. is_among R ks e.0 ≡ true) (e ∷ es) → flat_map (found_at (e ∷ es)) ks ≡ flat_map (λ e. F e.0 e.1) (e ∷ es))
          → (AllByRecursion (λ e. is_among R ks e.0 ≡ true) es → flat_map (found_at es) ks ≡ flat_map (λ e. F e.0 e.1) es)
          → flat_map (found_at (e ∷ es)) (k ∷ ks) ≡ F e.0 e.1 ++ flat_map (λ e. F e.0 e.1) es
      by Less is all rest =
          let none : find R k (e ∷ es) ≡ None = ap (λ r. cond (is_eq r) (Some e.1) (find R k es)) is ∙ find_below_head o k e es is sorted.0 in
          let behind : AllByRecursion (λ (e : K × X). is_among R ks e.0 ≡ true) (e ∷ es) = (not_first k ks e.0 is m.0, all_behind k ks es (below_more k e.0 es is sorted.0) m.1) in
          ap (λ x. with_found x [] (F k) ++ flat_map (found_at (e ∷ es)) ks) none ∙ all behind
      by Equal is all rest =
          let same : k ≡ e.0 = exact k e.0 is in
          let here : find R k (e ∷ es) ≡ Some e.1 = ap (λ r. cond (is_eq r) (Some e.1) (find R k es)) is in
          let behind = all_behind k ks es (subst (λ q. T (below_all R q es)) (sym same) sorted.0) m.1 in
          let later = skips e es ks (subst (λ q. AllByRecursion (λ x. R q x ≡ Less) ks) same r.0) ∙ rest behind in
          ap (λ x. with_found x [] (F k) ++ flat_map (found_at (e ∷ es)) ks) here ∙ (λ i. F (same i) e.1 ++ later i)
      by Greater is all rest =
          let less : R e.0 k ≡ Less = o.antisymm e.0 k ∙ ap ordering_reverse is in
          absurd (not_among e.0 (k ∷ ks) (less, all_above e.0 k ks less r.0) m.0)

-- Rising keys, put together
module _ {K : Type 0} (R : K → K → Ordering) where
  pub rising_append : (as_ bs : List K) → Rising R as_ → Rising R bs → AllByRecursion (λ a. AllByRecursion (λ b. R a b ≡ Less) bs) as_ → Rising R (as_ ++ bs)
  rising_append [] bs r s h = s
  rising_append (a ∷ as_) bs r s h = (all_append (λ b. R a b ≡ Less) as_ bs r.0 h.0, rising_append as_ bs r.1 s h.1)

-- numbers below one
all_below : (n : ℕ) (m : ℕ) → n ≤ m → AllByRecursion (λ k. k < m) (below n)
all_below zero m le = tt
all_below (suc n) m le = all_append (λ k. k < m) (below n) (n ∷ []) (all_below n m (omega (arith, le))) (omega (arith, le), tt)

pub below_rising : (n : ℕ) → Rising nat_cmp (below n)
below_rising zero = tt
below_rising (suc n) = rising_append nat_cmp (below n) (n ∷ []) (below_rising n) (tt, tt) (lesser_each (below n) (all_below n n (omega arith)))
  where
    lesser_each : (ks : List ℕ) → AllByRecursion (λ k. k < n) ks → AllByRecursion (λ k. AllByRecursion (λ b. nat_cmp k b ≡ Less) (n ∷ [])) ks
    lesser_each [] h = tt
    lesser_each (k ∷ ks) h = ((sym (nat_cmp_is k n Less h.0), tt), lesser_each ks h.1)

-- each number below one is among them
among_below : (n k : ℕ) → k < n → is_among nat_cmp (below n) k ≡ true
among_below zero k lt = absurd (omega (arith, lt))
among_below (suc n) k lt =
    list_any-append (eq_by_cmp nat_cmp k) (below n) (n ∷ []) ∙ ap (λ b. is_among nat_cmp (below n) k || (b || false)) (unsigned_tied k n)
    ∙ by (nat_eq k n) refl (λ less. among_below n k less)
  where
    by : (b : Bool) → nat_eq k n ≡ b → (k < n → is_among nat_cmp (below n) k ≡ true) → (is_among nat_cmp (below n) k || (b || false)) ≡ true
    by true e rest = or_right (is_among nat_cmp (below n) k) true refl
    by false e rest = or_left (is_among nat_cmp (below n) k) false (rest (grind (arith, nat_tests, lt, e)))

-- Maps by number, with all keys below one
module _ {X L : Type 0} (F : ℕ → X → List L) where
  keys_among : (n : ℕ) (es : List (ℕ × X)) → AllByRecursion (λ e. e.0 < n) es → AllByRecursion (λ e. is_among nat_cmp (below n) e.0 ≡ true) es
  keys_among n [] h = tt
  keys_among n (e ∷ es) h = (among_below n e.0 h.0, keys_among n es h.1)

  pub each_below : (n : ℕ) (es : List (ℕ × X)) → T (is_sorted nat_cmp es) → AllByRecursion (λ e. e.0 < n) es → flat_map (found_at nat_cmp_total exact_unsigned F es) (below n) ≡ flat_map (λ e. F e.0 e.1) es
  each_below n es s h = each_once nat_cmp_total exact_unsigned F (below n) es (below_rising n) s (keys_among n es h)

-- Lists of rising numbers below one
module _ {L : Type 0} (f : ℕ → L) where
  -- the line of a number of the list
  abbrev pub listed_at : List ℕ → ℕ → List L
  listed_at ns k = cond (has_number k ns) (f k ∷ []) []

  numbered_at : (ns : List ℕ) (k : ℕ) → found_at nat_cmp_total exact_unsigned (λ k (n : ℕ). f k ∷ []) (map (λ n. (n, 0)) ns) k ≡ listed_at ns k
  numbered_at [] k = refl
  numbered_at (n ∷ ns) k = ap (λ b. with_found (cond b (Some 0) (find {X = ℕ} nat_cmp k (map (λ n. (n, 0)) ns))) [] (λ (n : ℕ). f k ∷ [])) (unsigned_tied k n)
      ∙ by (nat_eq k n) (numbered_at ns k)
    where
      by : (b : Bool) → with_found (find {X = ℕ} nat_cmp k (map (λ n. (n, 0)) ns)) [] (λ (n : ℕ). f k ∷ []) ≡ listed_at ns k
          → with_found (cond b (Some 0) (find {X = ℕ} nat_cmp k (map (λ n. (n, 0)) ns))) [] (λ (n : ℕ). f k ∷ []) ≡ cond (b || has_number k ns) (f k ∷ []) []
      by true rest = refl
      by false rest = rest

  all_numbered : (ks ns : List ℕ) → flat_map (found_at nat_cmp_total exact_unsigned (λ k (n : ℕ). f k ∷ []) (map (λ n. (n, 0)) ns)) ks ≡ flat_map (listed_at ns) ks
  all_numbered [] ns = refl
  all_numbered (k ∷ ks) ns = let here = numbered_at ns k in let rest = all_numbered ks ns in λ i. here i ++ rest i

  back : (ns : List ℕ) → flat_map (λ (e : ℕ × ℕ). f e.0 ∷ []) (map (λ n. (n, 0)) ns) ≡ map f ns
  back [] = refl
  back (n ∷ ns) = ap (λ l. f n ∷ l) (back ns)

  all_less : (n : ℕ) (ns : List ℕ) → AllByRecursion (λ k. k < n) ns → AllByRecursion (λ (e : ℕ × ℕ). e.0 < n) (map (λ n. (n, 0)) ns)
  all_less n [] h = tt
  all_less n (k ∷ ns) h = (h.0, all_less n ns h.1)

  pub listed_below : (n : ℕ) (ns : List ℕ) → Rise ns → AllByRecursion (λ k. k < n) ns → flat_map (listed_at ns) (below n) ≡ map f ns
  listed_below n ns r h = sym (all_numbered (below n) ns) ∙ each_below (λ k (x : ℕ). f k ∷ []) n (map (λ n. (n, 0)) ns) r (all_less n ns h) ∙ back ns

-- Jobs
pub jobs_rise : (jobs : List KnownJob) → Rise (job_numbers jobs)
jobs_rise [] = tt
jobs_rise (j ∷ js) = with_rises j.job.number (job_numbers js) (jobs_rise js)

pub job_listed : (jobs : List KnownJob) (a : ℕ) → is_known jobs a ≡ has_number a (job_numbers jobs)
job_listed [] a = refl
job_listed (j ∷ js) a = by (nat_eq j.job.number a) refl (job_listed js a) ∙ sym (with_is a j.job.number (job_numbers js))
  where
    by : (b : Bool) → nat_eq j.job.number a ≡ b → is_known js a ≡ has_number a (job_numbers js) → is_some (cond b (Some j) (job_of js a)) ≡ (nat_eq a j.job.number || has_number a (job_numbers js))
    by true e rest = sym (or_left (nat_eq a j.job.number) _ (eq_turned a j.job.number ∙ e))
    by false e rest = rest ∙ sym (ap (λ b. b || has_number a (job_numbers js)) (eq_turned a j.job.number ∙ e))

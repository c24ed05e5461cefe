-- Changes whose keys rise can be made one after another exactly where each of them can be made on the entries as they are.
use Rattle.std.proofs.Common.{◌≡◌, ℕ, ◌<◌, true, false, cond, nat_lt, List, [], ◌∷◌, Option, Some, None, Result, Ok, Err, refl, sym, ◌∙◌, ap, subst, drop, rules, length, get_or, drop-cons, add-one, ◌+◌, ◌≤◌}
use Rattle.std.specs.Prelude.{ℤ, T, IsOk}
use Rattle.std.specs.Option.{is_some}
use Rattle.std.specs.Ordering.{eq_by_cmp, is_eq}
use Rattle.std.specs.Cmp.{IsTotalOrder, tied_itself}
use Rattle.std.specs.declared.cmp.Ordering.{Ordering}
use Rattle.std.specs.declared.cmp.Ordering.TheVariants.{Equal}
use Rattle.std.specs.FinMap.Entries.{below_all, find, is_sorted}
use Rattle.std.proofs.lemmas.List.{drop_all}
use Rattle.fuxi_terms.specs.Counts.{moved, in_bounds, moved_within, count, set_count, set_moved, change_one, change_all, then_do}
use Rattle.fuxi_terms.proofs.CountsLemmas.{both_true, tied, below_none, count-set_count}

abbrev pub done : {A E : Type 0} → Result A E → Result (Unit {0}) E
done (Ok x) = Ok tt
done (Err e) = Err e

module _ {K : Type 0} (R : K → K → Ordering) {E : Type 0} (low : K → ℕ → ℤ → E) (high : K → E) (greatest : K → ℕ) where
  -- each change on its own
  abbrev pub tested : List (K × ℕ) → List (K × ℤ) → Result (Unit {0}) E
  tested es [] = Ok tt
  tested es (c ∷ cs) = then_do (moved_within low high greatest c.0 (count R es c.0) c.1) (λ _. tested es cs)

  set_moved_is : (es : List (K × ℕ)) (k : K) (kept : ℕ) (change : ℤ) (o : Option ℕ) → set_moved R low high greatest es k kept change o ≡ then_do (in_bounds low high greatest k kept change o) (λ n. Ok (set_count R es k n))
  set_moved_is es k kept change None = refl
  set_moved_is es k kept change (Some n) = elim (nat_lt (greatest k) n) as (λ b. cond b (Err (high k)) (Ok (set_count R es k n)) ≡ then_do (cond b (Err (high k)) (Ok n)) (λ m. Ok (set_count R es k m))) [ true ↦ refl | false ↦ refl ]

  pub change_one_is : (es : List (K × ℕ)) (k : K) (change : ℤ) → change_one R low high greatest es k change ≡ then_do (moved_within low high greatest k (count R es k) change) (λ n. Ok (set_count R es k n))
  change_one_is es k change = set_moved_is es k (count R es k) change (moved (count R es k) change)

module _ {K : Type 0} {R : K → K → Ordering} (o : IsTotalOrder R) (same : (x y : K) → R x y ≡ Equal → x ≡ y) {E : Type 0} (low : K → ℕ → ℤ → E) (high : K → E) (greatest : K → ℕ) where
  pub all_tested : (cs : List (K × ℤ)) (es fs : List (K × ℕ)) → T (is_sorted R cs) → ((q : K) → is_some (find R q cs) ≡ true → count R es q ≡ count R fs q) → done (change_all R low high greatest es cs) ≡ tested R low high greatest fs cs
  all_tested [] es fs s is = refl
  all_tested (c ∷ cs) es fs s is =
      let parts = both_true (below_all R c.0 cs) (is_sorted R cs) s in
      let itself : eq_by_cmp R c.0 c.0 ≡ true = ap is_eq (tied_itself o c.0) in
      let here : count R es c.0 ≡ count R fs c.0 = is c.0 (ap (λ b. is_some (cond b (Some c.1) (find R c.0 cs))) itself) in
      let other : (q : K) → is_some (find R q cs) ≡ true → eq_by_cmp R q c.0 ≡ false = λ q in_cs. elim (eq_by_cmp R q c.0) as (λ b. eq_by_cmp R q c.0 ≡ b → b ≡ false) [
        | true ↦ λ t. let none : is_some (find R q cs) ≡ false = subst (λ x. is_some (find R x cs) ≡ false) (sym (same q c.0 (tied _ t))) (ap is_some (below_none R c.0 cs parts.0)) in cc
        | false ↦ λ t. refl
      ] refl in
      let rest : (q : K) → is_some (find R q cs) ≡ true → count R es q ≡ count R fs q = λ q in_cs. is q (ap (λ b. is_some (cond b (Some c.1) (find R q cs))) (other q in_cs) ∙ in_cs) in
      let step : (r : Result ℕ E) → done (then_do (then_do r (λ n. Ok (set_count R es c.0 n))) (λ gs. change_all R low high greatest gs cs)) ≡ then_do r (λ _. tested R low high greatest fs cs) = λ r. elim r as (λ r. done (then_do (then_do r (λ n. Ok (set_count R es c.0 n))) (λ gs. change_all R low high greatest gs cs)) ≡ then_do r (λ _. tested R low high greatest fs cs)) [
        | Ok n ↦ all_tested cs (set_count R es c.0 n) fs parts.1 (λ q in_cs. count-set_count o es c.0 n q ∙ ap (λ b. cond b n (count R es q)) (other q in_cs) ∙ rest q in_cs)
        | Err e ↦ refl
      ] in
      ap (λ r. done (then_do r (λ gs. change_all R low high greatest gs cs))) (change_one_is R low high greatest es c.0 c.1)
      ∙ step (moved_within low high greatest c.0 (count R es c.0) c.1)
      ∙ ap (λ n. then_do (moved_within low high greatest c.0 n c.1) (λ _. tested R low high greatest fs cs)) here

module _ {K : Type 0} (R : K → K → Ordering) {E : Type 0} (low : K → ℕ → ℤ → E) (high : K → E) (greatest : K → ℕ) where
  -- the test of one change more
  pub tested_more : (es : List (K × ℕ)) (cs : List (K × ℤ)) (i : ℕ) (d : K × ℤ) (r : Result ℕ E) → i < length cs → moved_within low high greatest (get_or cs i d).0 (count R es (get_or cs i d).0) (get_or cs i d).1 ≡ r → tested R low high greatest es (drop i cs) ≡ then_do r (λ _. tested R low high greatest es (drop (i + 1) cs))
  tested_more es cs i d r lt is =
      ap (tested R low high greatest es) (drop-cons cs i d lt ∙ ap (λ n. get_or cs i d ∷ drop n cs) (sym (add-one i)))
      ∙ ap (λ r. then_do r (λ _. tested R low high greatest es (drop (i + 1) cs))) is

-- what the test of the changes says of making them
is_ok_from_done : {A E : Type 0} (r : Result A E) → done r ≡ Ok tt → IsOk r
is_ok_from_done (Ok x) e = search rules
is_ok_from_done (Err x) e = cc

err_from_done : {A E : Type 0} (r : Result A E) (e : E) → done r ≡ Err e → r ≡ Err e
err_from_done (Ok x) e h = cc
err_from_done (Err x) e h = cc

module _ {K : Type 0} {R : K → K → Ordering} (o : IsTotalOrder R) (same : (x y : K) → R x y ≡ Equal → x ≡ y) {E : Type 0} (low : K → ℕ → ℤ → E) (high : K → E) (greatest : K → ℕ) (es : List (K × ℕ)) (cs : List (K × ℤ)) where
  abbrev pub IsTestedTo : ℕ → Type 0
  IsTestedTo i = tested R low high greatest es (drop i cs) ≡ tested R low high greatest es cs

  pub refused_at : (i : ℕ) (d : K × ℤ) (kept : ℕ) (f : E) → i < length cs → T (is_sorted R cs) → IsTestedTo i → kept ≡ count R es (get_or cs i d).0 → Err f ≡ moved_within low high greatest (get_or cs i d).0 kept (get_or cs i d).1 → change_all R low high greatest es cs ≡ Err f
  refused_at i d kept f lt s so_far kept_is refusal =
      err_from_done (change_all R low high greatest es cs) f
      (all_tested o same low high greatest cs es es s (λ q _. refl) ∙ sym so_far
      ∙ tested_more R low high greatest es cs i d (Err f) lt (ap (λ n. moved_within low high greatest (get_or cs i d).0 n (get_or cs i d).1) (sym kept_is) ∙ sym refusal))

  pub one_more : (i : ℕ) (d : K × ℤ) (kept n : ℕ) → i < length cs → IsTestedTo i → kept ≡ count R es (get_or cs i d).0 → Ok n ≡ moved_within low high greatest (get_or cs i d).0 kept (get_or cs i d).1 → IsTestedTo (i + 1)
  one_more i d kept n lt so_far kept_is made =
      sym (tested_more R low high greatest es cs i d (Ok n) lt (ap (λ n. moved_within low high greatest (get_or cs i d).0 n (get_or cs i d).1) (sym kept_is) ∙ sym made)) ∙ so_far

  pub all_pass : (i : ℕ) → length cs ≤ i → T (is_sorted R cs) → IsTestedTo i → IsOk (change_all R low high greatest es cs)
  all_pass i le s so_far = is_ok_from_done (change_all R low high greatest es cs)
      (all_tested o same low high greatest cs es es s (λ q _. refl) ∙ sym so_far ∙ ap (tested R low high greatest es) (drop_all i cs le))

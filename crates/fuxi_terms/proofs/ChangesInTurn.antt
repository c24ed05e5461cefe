-- Changes that can be made, one after another.
use Rattle.std.proofs.Common.{◌≡◌, ℕ, ◌+◌, ◌<◌, ◌≤◌, true, false, cond, nat_lt, List, ◌∷◌, length, get_or, drop, Some, None, Result, Ok, Err, refl, sym, ◌∙◌, ap, subst, arith, add-one, drop-cons}
use Rattle.std.specs.Prelude.{ℤ, IsOk}
use Rattle.std.specs.declared.cmp.Ordering.{Ordering}
use Rattle.std.proofs.lemmas.Bool.Decides.{nat_tests}
use Rattle.std.proofs.lemmas.List.{drop_all}
use Rattle.fuxi_terms.specs.Counts.{moved, count, set_count, set_moved, change_one, change_all, then_do}

module _ {K : Type 0} (R : K → K → Ordering) {E : Type 0} (low : K → ℕ → ℤ → E) (high : K → E) (greatest : K → ℕ) where
  not_moved : (es : List (K × ℕ)) (k : K) (change : ℤ) → moved (count R es k) change ≡ None → change_one R low high greatest es k change ≡ Err (low k (count R es k) change)
  not_moved es k change e = ap (set_moved R low high greatest es k (count R es k) change) e

  pub can_move : (es : List (K × ℕ)) (k : K) (change : ℤ) → IsOk (change_one R low high greatest es k change) → moved (count R es k) change ≡ None → ⊥
  can_move es k change ok e = let h : IsOk {T = List (K × ℕ)} (Err (low k (count R es k) change)) = subst (λ r. IsOk r) (not_moved es k change e) ok in cc

  pub made_one : (es : List (K × ℕ)) (k : K) (change : ℤ) (n : ℕ) → IsOk (change_one R low high greatest es k change) → moved (count R es k) change ≡ Some n → (change_one R low high greatest es k change ≡ Ok (set_count R es k n)) × (n ≤ greatest k)
  made_one es k change n ok e =
      let is : change_one R low high greatest es k change ≡ cond (nat_lt (greatest k) n) (Err (high k)) (Ok (set_count R es k n)) = ap (set_moved R low high greatest es k (count R es k) change) e in
      elim (nat_lt (greatest k) n) as (λ b. nat_lt (greatest k) n ≡ b → change_one R low high greatest es k change ≡ cond b (Err (high k)) (Ok (set_count R es k n)) → (change_one R low high greatest es k change ≡ Ok (set_count R es k n)) × (n ≤ greatest k)) [
        | true ↦ λ t h. let bad : IsOk {T = List (K × ℕ)} (Err (high k)) = subst (λ r. IsOk r) h ok in absurd (let f : ⊥ = cc in f)
        | false ↦ λ t h. (h, grind (arith, nat_tests))
      ] refl is

  -- where all can be made, the first of them can
  first_can : (es : List (K × ℕ)) (r : Result (List (K × ℕ)) E) (cs : List (K × ℤ)) → IsOk (then_do r (λ fs. change_all R low high greatest fs cs)) → IsOk r
  first_can es (Ok fs) cs h = refl
  first_can es (Err e) cs h = cc

  pub next_can : (es : List (K × ℕ)) (cs : List (K × ℤ)) (i : ℕ) (d : K × ℤ) (whole : Result (List (K × ℕ)) E) → i < length cs → IsOk whole → change_all R low high greatest es (drop i cs) ≡ whole → IsOk (change_one R low high greatest es (get_or cs i d).0 (get_or cs i d).1)
  next_can es cs i d whole lt ok is =
      first_can es _ (drop (i + 1) cs) (subst (λ r. IsOk r) (sym (ap (change_all R low high greatest es) (sym (drop-cons cs i d lt ∙ ap (λ n. get_or cs i d ∷ drop n cs) (sym (add-one i)))) ∙ is)) ok)

  pub made_more : (es fs : List (K × ℕ)) (cs : List (K × ℤ)) (i : ℕ) (d : K × ℤ) (whole : Result (List (K × ℕ)) E) → i < length cs → change_one R low high greatest es (get_or cs i d).0 (get_or cs i d).1 ≡ Ok fs → change_all R low high greatest es (drop i cs) ≡ whole → change_all R low high greatest fs (drop (i + 1) cs) ≡ whole
  made_more es fs cs i d whole lt one is =
      sym (ap (λ r. then_do r (λ gs. change_all R low high greatest gs (drop (i + 1) cs))) one)
      ∙ ap (change_all R low high greatest es) (sym (drop-cons cs i d lt ∙ ap (λ n. get_or cs i d ∷ drop n cs) (sym (add-one i)))) ∙ is

  pub made_all : (es : List (K × ℕ)) (cs : List (K × ℤ)) (i : ℕ) (whole : Result (List (K × ℕ)) E) → length cs ≤ i → change_all R low high greatest es (drop i cs) ≡ whole → whole ≡ Ok es
  made_all es cs i whole le is = sym is ∙ ap (change_all R low high greatest es) (drop_all i cs le)

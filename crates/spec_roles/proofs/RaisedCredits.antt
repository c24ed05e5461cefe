-- What is credited after a demand is the greater of what was credited and what it gives back.
use Rattle.std.proofs.Common.{◌≡◌, ℕ, Bool, true, false, cond, nat_lt, List, [], ◌∷◌, Some, refl, sym, ◌∙◌, ap, arith}
use Rattle.std.specs.Prelude.{◌&&◌, T}
use Rattle.std.specs.Option.{unwrap_or}
use Rattle.std.specs.Ordering.{eq_by_cmp, is_eq}
use Rattle.std.specs.Cmp.{tied_itself}
use Rattle.std.specs.FinMap.Entries.{below_all, find, put, is_sorted, find-put}
use Rattle.std.proofs.lemmas.Bool.Decides.{nat_tests}
use Rattle.fuxi_terms.specs.declared.Key.{Key}
use Rattle.fuxi_terms.specs.Keys.{key_cmp}
use Rattle.fuxi_terms.specs.Counts.{count}
use Rattle.fuxi_terms.specs.TallyKeys.{credited_key, back_key, is_back}
use Rattle.fuxi_terms.proofs.Booleans.{both_true, either, number_is}
use Rattle.fuxi_terms.proofs.CountsLemmas.{both_true as both, tied, below_none}
use Rattle.fuxi_terms.proofs.KeyOrders.{key_total, same_key}
use Rattle.spec_roles.specs.MasterSteps.{raise_credited}

-- Raising takes the greater number
last_one : (a b c : ℕ) → a ≡ 0 → b ≡ c → cond (nat_lt b a) a b ≡ c
last_one a b c e f = let no : nat_lt b a ≡ false = grind (arith, nat_tests) in ap (λ t. cond t a b) no ∙ f

chosen : (cs : List (Key × ℕ)) (k : Key) (v : ℕ) (b : Bool) → count key_cmp (cond b (put key_cmp k v cs) cs) k ≡ cond b v (count key_cmp cs k)
chosen cs k v true = ap (λ o. unwrap_or o 0) (find-put key_cmp key_total k k v cs) ∙ ap (λ o. unwrap_or (cond (is_eq o) (Some v) (find key_cmp k cs)) 0) (tied_itself key_total k)
chosen cs k v false = refl

-- a number given back elsewhere
elsewhere : (cs : List (Key × ℕ)) (e : Key × ℕ) (u m : ℕ) → eq_by_cmp key_cmp (back_key u m) e.0 ≡ false
    → count key_cmp (cond (is_back e.0 && nat_lt (count key_cmp cs (credited_key e.0.unit e.0.number)) e.1) (put key_cmp (credited_key e.0.unit e.0.number) e.1 cs) cs) (credited_key u m) ≡ count key_cmp cs (credited_key u m)
elsewhere cs e u m other = either (λ es. count key_cmp es (credited_key u m) ≡ count key_cmp cs (credited_key u m)) (is_back e.0 && nat_lt (count key_cmp cs (credited_key e.0.unit e.0.number)) e.1) (put key_cmp (credited_key e.0.unit e.0.number) e.1 cs) cs
    (λ t. ap (λ o. unwrap_or o 0) (find-put key_cmp key_total (credited_key u m) (credited_key e.0.unit e.0.number) e.1 cs)
    ∙ ap (λ b. unwrap_or (cond b (Some e.1) (find key_cmp (credited_key u m) cs)) 0) (apart (both_true (is_back e.0) _ t).0 (eq_by_cmp key_cmp (credited_key u m) (credited_key e.0.unit e.0.number)) refl))
    (λ _. refl)
  where
    apart : is_back e.0 ≡ true → (b : Bool) → eq_by_cmp key_cmp (credited_key u m) (credited_key e.0.unit e.0.number) ≡ b → eq_by_cmp key_cmp (credited_key u m) (credited_key e.0.unit e.0.number) ≡ false
    apart back false t = t
    apart back true t =
        let same : credited_key u m ≡ credited_key e.0.unit e.0.number = same_key _ _ (tied _ t) in
        let what : 5 ≡ e.0.what = sym (number_is e.0.what 5 back) in
        let unit : u ≡ e.0.unit = ap (λ (k : Key). k.unit) same in
        let number : m ≡ e.0.number = ap (λ (k : Key). k.number) same in
        let key : back_key u m ≡ e.0 = (λ i. record { what = what i; unit = unit i; number = number i }) in
        let yes : eq_by_cmp key_cmp (back_key u m) e.0 ≡ true = ap (λ k. eq_by_cmp key_cmp (back_key u m) k) (sym key) ∙ ap is_eq (tied_itself key_total (back_key u m)) in
        absurd (let f : ⊥ = cc in f)

-- each number credited
pub raised : (cs es : List (Key × ℕ)) → T (is_sorted key_cmp es) → (u m : ℕ)
    → count key_cmp (raise_credited cs es) (credited_key u m) ≡ cond (nat_lt (count key_cmp cs (credited_key u m)) (count key_cmp es (back_key u m))) (count key_cmp es (back_key u m)) (count key_cmp cs (credited_key u m))
raised cs [] s u m = ap (λ b. cond b 0 (count key_cmp cs (credited_key u m))) (sym (none (count key_cmp cs (credited_key u m))))
  where
    none : (n : ℕ) → nat_lt n 0 ≡ false
    none n = grind (arith, nat_tests)
raised cs (e ∷ es) s u m =
    let parts = both (below_all key_cmp e.0 es) (is_sorted key_cmp es) s in
    let k = credited_key e.0.unit e.0.number in
    let cs1 = cond (is_back e.0 && nat_lt (count key_cmp cs k) e.1) (put key_cmp k e.1 cs) cs in
    raised cs1 es parts.1 u m
    ∙ elim (eq_by_cmp key_cmp (back_key u m) e.0) as (λ t. eq_by_cmp key_cmp (back_key u m) e.0 ≡ t → cond (nat_lt (count key_cmp cs1 (credited_key u m)) (count key_cmp es (back_key u m))) (count key_cmp es (back_key u m)) (count key_cmp cs1 (credited_key u m))
    ≡ cond (nat_lt (count key_cmp cs (credited_key u m)) (unwrap_or (cond t (Some e.1) (find key_cmp (back_key u m) es)) 0)) (unwrap_or (cond t (Some e.1) (find key_cmp (back_key u m) es)) 0) (count key_cmp cs (credited_key u m))) [
      | true ↦ λ t.
          let same : back_key u m ≡ e.0 = same_key (back_key u m) e.0 (tied _ t) in
          let gone : count key_cmp es (back_key u m) ≡ 0 = ap (λ q. count key_cmp es q) same ∙ ap (λ o. unwrap_or o 0) (below_none key_cmp e.0 es parts.0) in
          let here : count key_cmp cs1 (credited_key u m) ≡ cond (nat_lt (count key_cmp cs (credited_key u m)) e.1) e.1 (count key_cmp cs (credited_key u m)) =
          ap (λ (q : Key). count key_cmp (cond (is_back q && nat_lt (count key_cmp cs (credited_key q.unit q.number)) e.1) (put key_cmp (credited_key q.unit q.number) e.1 cs) cs) (credited_key u m)) (sym same)
          ∙ chosen cs (credited_key u m) e.1 (nat_lt (count key_cmp cs (credited_key u m)) e.1) in
          last_one (count key_cmp es (back_key u m)) (count key_cmp cs1 (credited_key u m)) _ gone here
      | false ↦ λ t. ap (λ n. cond (nat_lt n (count key_cmp es (back_key u m))) (count key_cmp es (back_key u m)) n) (elsewhere cs e u m t)
    ] refl

-- Changes that take one list of counts to another are the difference of the two.
use Rattle.std.proofs.Common.{◌≡◌, ℕ, ◌+◌, ◌-◌, ◌<◌, Bool, true, false, cond, nat_lt, nat_eq, List, [], ◌∷◌, Option, Some, None, Result, Ok, Err, refl, sym, ◌∙◌, ap, subst, arith}
use Rattle.std.specs.Prelude.{ℤ, pos, negsuc, T, ◌||◌, ◌&&◌}
use Rattle.std.specs.Option.{unwrap_or, is_some}
use Rattle.std.specs.Ordering.{eq_by_cmp, is_lt}
use Rattle.std.specs.Cmp.{IsTotalOrder}
use Rattle.std.specs.declared.cmp.Ordering.{Ordering}
use Rattle.std.specs.declared.cmp.Ordering.TheVariants.{Equal}
use Rattle.std.specs.List.{AllByRecursion}
use Rattle.std.proofs.lemmas.Bool.Decides.{nat_tests}
use Rattle.std.specs.FinMap.Entries.{below_all, find, is_sorted, is_sorted-put, find-put, same_entries}
use Rattle.fuxi_terms.specs.Counts.{moved, change_between, is_no_change, count, set_count, set_moved, change_one, then_do, change_all, joined, differences, difference, AreChanges}
use Rattle.fuxi_terms.proofs.CountsLemmas.{both_true, tied, below_none, count-set_count}
use Rattle.fuxi_terms.proofs.Booleans.{both_false}

-- what one change says of a number before and after
abbrev Moves : Option ℤ → ℕ → ℕ → Type 0
Moves None a b = a ≡ b
Moves (Some c) a b = moved a c ≡ Some b

-- the change of a key, where its number changes
abbrev change_at : Bool → ℕ → ℕ → Option ℤ
change_at same a b = cond same None (Some (change_between a b))

up : (a k b : ℕ) → Some (a + k) ≡ Some b → nat_eq k 0 ≡ false → Some (pos k) ≡ change_at (nat_eq a b) a b
up a k b e real =
    let is : a + k ≡ b = ap (λ o. unwrap_or o 0) e in
    let differ : nat_eq a b ≡ false = grind (arith, nat_tests, is, real) in
    let not_less : nat_lt b a ≡ false = grind (arith, nat_tests, is) in
    let step : b - a ≡ k = omega (arith, is) in
    sym (ap (λ t. cond t None (Some (change_between a b))) differ ∙ ap (λ t. Some (cond t (negsuc (a - b - 1)) (pos (b - a)))) not_less ∙ ap (λ n. Some (pos n)) step)

down : (a k b : ℕ) (t : Bool) → nat_lt k a ≡ t → cond t (Some (a - (k + 1))) None ≡ Some b → Some (negsuc k) ≡ change_at (nat_eq a b) a b
down a k b true lt e =
    let is : a - (k + 1) ≡ b = ap (λ o. unwrap_or o 0) e in
    let below : k < a = grind (arith, nat_tests, lt) in
    let differ : nat_eq a b ≡ false = grind (arith, nat_tests, is, below) in
    let less : nat_lt b a ≡ true = grind (arith, nat_tests, is, below) in
    let step : a - b - 1 ≡ k = omega (arith, is, below) in
    sym (ap (λ t. cond t None (Some (change_between a b))) differ ∙ ap (λ t. Some (cond t (negsuc (a - b - 1)) (pos (b - a)))) less ∙ ap (λ n. Some (negsuc n)) step)
down a k b false lt e = cc

real_move : (c : ℤ) (a b : ℕ) → is_no_change c ≡ false → moved a c ≡ Some b → Some c ≡ change_at (nat_eq a b) a b
real_move (pos k) a b real e = up a k b e real
real_move (negsuc k) a b real e = down a k b (nat_lt k a) refl e

-- whether a change that is there is real
abbrev IsReal : Option ℤ → Type 0
IsReal None = Unit {0}
IsReal (Some c) = is_no_change c ≡ false

move_is : (o : Option ℤ) (a b : ℕ) → IsReal o → Moves o a b → o ≡ change_at (nat_eq a b) a b
move_is None a b r e = let t : nat_eq a b ≡ true = grind (arith, nat_tests, e) in sym (ap (λ t. cond t None (Some (change_between a b))) t)
move_is (Some c) a b r e = real_move c a b r e

module _ {K : Type 0} {R : K → K → Ordering} (o : IsTotalOrder R) (same : (x y : K) → R x y ≡ Equal → x ≡ y) where
  key_is : (q k : K) → eq_by_cmp R q k ≡ true → q ≡ k
  key_is q k e = same q k (tied _ e)

  find_real : (q : K) (cs : List (K × ℤ)) → AllByRecursion (λ c. is_no_change c.1 ≡ false) cs → IsReal (find R q cs)
  find_real q [] h = tt
  find_real q (c ∷ cs) h = elim (eq_by_cmp R q c.0) as (λ b. IsReal (cond b (Some c.1) (find R q cs))) [ true ↦ h.0 | false ↦ find_real q cs h.1 ]

  module _ {E : Type 0} (low : K → ℕ → ℤ → E) (high : K → E) (greatest : K → ℕ) where
    -- one change that is made
    record Made (es : List (K × ℕ)) (k : K) (change : ℤ) (fs : List (K × ℕ)) : Type 0 where
      to : ℕ
      moves : moved (count R es k) change ≡ Some to
      set : fs ≡ set_count R es k to

    set_made : (es fs : List (K × ℕ)) (k : K) (kept : ℕ) (change : ℤ) (r : Option ℕ) → kept ≡ count R es k → moved kept change ≡ r → set_moved R low high greatest es k kept change r ≡ Ok fs → Made es k change fs
    set_made es fs k kept change None is m e = cc
    set_made es fs k kept change (Some n) is m e = elim (nat_lt (greatest k) n) as (λ b. cond b (Err (high k)) (Ok (set_count R es k n)) ≡ Ok fs → Made es k change fs) [
      | true ↦ λ e. cc
      | false ↦ λ e. let s : fs ≡ set_count R es k n = cc in record { to = n; moves = subst (λ x. moved x change ≡ Some n) is m; set = s }
    ] e

    record Ends (es : List (K × ℕ)) (cs : List (K × ℤ)) (end : List (K × ℕ)) : Type 0 where
      each : (q : K) → Moves (find R q cs) (count R es q) (count R end q)

    first_done : (es end : List (K × ℕ)) (k : K) (change : ℤ) (cs : List (K × ℤ)) (r : Result (List (K × ℕ)) E) → change_one R low high greatest es k change ≡ r → then_do r (λ fs. change_all R low high greatest fs cs) ≡ Ok end
        → T (below_all R k cs) → ((fs : List (K × ℕ)) → change_all R low high greatest fs cs ≡ Ok end → Ends fs cs end) → Ends es ((k, change) ∷ cs) end
    first_done es end k change cs (Err x) is e below rest = cc
    first_done es end k change cs (Ok fs) is e below rest =
        let made = set_made es fs k (count R es k) change (moved (count R es k) change) refl refl is in
        let ends = rest fs e in
        let value : (q : K) → count R fs q ≡ cond (eq_by_cmp R q k) made.to (count R es q) = λ q. ap (λ l. count R l q) made.set ∙ count-set_count o es k made.to q in
        record {
          each = λ q. elim (eq_by_cmp R q k) as (λ b. eq_by_cmp R q k ≡ b → Moves (cond b (Some change) (find R q cs)) (count R es q) (count R end q)) [
            | true ↦ λ t.
                let is_k = key_is q k t in
                let nothing_more : find R q cs ≡ None = subst (λ x. find R x cs ≡ None) (sym is_k) (below_none R k cs below) in
                let after : count R fs q ≡ count R end q = subst (λ o. Moves o (count R fs q) (count R end q)) nothing_more (ends.each q) in
                let there : count R end q ≡ made.to = sym after ∙ value q ∙ ap (λ b. cond b made.to (count R es q)) t in
                subst (λ x. moved (count R es x) change ≡ Some (count R end q)) (sym is_k) (made.moves ∙ ap (λ n. Some n) (sym there))
            | false ↦ λ t. subst (λ n. Moves (find R q cs) n (count R end q)) (value q ∙ ap (λ b. cond b made.to (count R es q)) t) (ends.each q)
          ] refl;
        }

    all_done : (cs : List (K × ℤ)) (es end : List (K × ℕ)) → T (is_sorted R cs) → change_all R low high greatest es cs ≡ Ok end → Ends es cs end
    all_done [] es end s e = let is : es ≡ end = cc in record { each = λ q. ap (λ l. count R l q) is }
    all_done (c ∷ cs) es end s e = let b = both_true (below_all R c.0 cs) (is_sorted R cs) s in
        first_done es end c.0 c.1 cs (change_one R low high greatest es c.0 c.1) refl e b.0 (λ fs e. all_done cs fs end b.1 e)

    module _ (old new : List (K × ℕ)) where
      -- the difference has the change of each key that is gone through
      below_differences : (x : K) (js : List (K × ℕ)) → T (below_all R x js) → T (below_all R x (differences R old new js))
      below_differences x [] h = tt
      below_differences x (j ∷ js) h = let b = both_true (is_lt (R x j.0)) (below_all R x js) h in
          elim (nat_eq (count R old j.0) (count R new j.0)) as (λ t. T (below_all R x (cond t (differences R old new js) ((j.0, change_between (count R old j.0) (count R new j.0)) ∷ differences R old new js)))) [
            | true ↦ below_differences x js b.1
            | false ↦ and_true _ _ b.0 (below_differences x js b.1)
          ]
        where
          and_true : (a b : Bool) → T a → T b → T (a && b)
          and_true true b p q = q
          and_true false b p q = p

      sorted_differences : (js : List (K × ℕ)) → T (is_sorted R js) → T (is_sorted R (differences R old new js))
      sorted_differences [] h = tt
      sorted_differences (j ∷ js) h = let b = both_true (below_all R j.0 js) (is_sorted R js) h in
          elim (nat_eq (count R old j.0) (count R new j.0)) as (λ t. T (is_sorted R (cond t (differences R old new js) ((j.0, change_between (count R old j.0) (count R new j.0)) ∷ differences R old new js)))) [
            | true ↦ sorted_differences js b.1
            | false ↦ and_true _ _ (below_differences j.0 js b.0) (sorted_differences js b.1)
          ]
        where
          and_true : (a b : Bool) → T a → T b → T (a && b)
          and_true true b p q = q
          and_true false b p q = p

      abbrev change_of : K → Option ℤ
      change_of q = change_at (nat_eq (count R old q) (count R new q)) (count R old q) (count R new q)

      found_difference : (q : K) (js : List (K × ℕ)) → T (is_sorted R js) → find R q (differences R old new js) ≡ cond (is_some (find R q js)) (change_of q) None
      found_difference q [] h = refl
      found_difference q (j ∷ js) h =
          let b = both_true (below_all R j.0 js) (is_sorted R js) h in
          let rest = found_difference q js b.1 in
          elim (eq_by_cmp R q j.0) as (λ t. eq_by_cmp R q j.0 ≡ t → find R q (differences R old new (j ∷ js)) ≡ cond (is_some (cond t (Some j.1) (find R q js))) (change_of q) None) [
            | true ↦ λ t.
                let is_j = key_is q j.0 t in
                let gone : find R q (differences R old new js) ≡ None = subst (λ x. find R x (differences R old new js) ≡ None) (sym is_j) (below_none R j.0 _ (below_differences j.0 js b.0)) in
                let here : find R q (differences R old new (j ∷ js)) ≡ change_of j.0 =
                elim (nat_eq (count R old j.0) (count R new j.0)) as (λ s. find R q (cond s (differences R old new js) ((j.0, change_between (count R old j.0) (count R new j.0)) ∷ differences R old new js)) ≡ change_at s (count R old j.0) (count R new j.0)) [
                  | true ↦ gone
                  | false ↦ ap (λ b. cond b (Some (change_between (count R old j.0) (count R new j.0))) (find R q (differences R old new js))) t
                ] in
                here ∙ ap change_of (sym is_j)
            | false ↦ λ t.
                elim (nat_eq (count R old j.0) (count R new j.0)) as (λ s. find R q (cond s (differences R old new js) ((j.0, change_between (count R old j.0) (count R new j.0)) ∷ differences R old new js)) ≡ cond (is_some (find R q js)) (change_of q) None) [
                  | true ↦ rest
                  | false ↦ ap (λ b. cond b (Some (change_between (count R old j.0) (count R new j.0))) (find R q (differences R old new js))) t ∙ rest
                ]
          ] refl

      -- changes in order, none of which is 0, that take the old list to the new one are the difference
      pub only_difference : (cs : List (K × ℤ)) → AreChanges R cs → T (is_sorted R new) → change_all R low high greatest old cs ≡ Ok new → cs ≡ difference R old new
      only_difference cs are sorted e =
          let ends = all_done cs old new are.sorted e in
          let js = joined R old new in
          let in_order = joined_keys old new sorted in
          same_entries R o same cs (difference R old new) are.sorted (sorted_differences js in_order) (λ q.
          move_is (find R q cs) (count R old q) (count R new q) (find_real q cs are.real) (ends.each q)
          ∙ elim (is_some (find R q js)) as (λ b. is_some (find R q js) ≡ b → change_of q ≡ cond b (change_of q) None) [
            | true ↦ λ _. refl
            | false ↦ λ t. let none = both_false _ _ (sym (is_joined old new q) ∙ t) in
                ap (λ b. change_at b (count R old q) (count R new q)) (let a = no_count old q none.0 in let b = no_count new q none.1 in let r : nat_eq (count R old q) (count R new q) ≡ true = grind (arith, nat_tests, a, b) in r)
          ] refl
          ∙ sym (found_difference q js in_order))
        where
          joined_keys : (es fs : List (K × ℕ)) → T (is_sorted R fs) → T (is_sorted R (joined R es fs))
          joined_keys [] fs h = h
          joined_keys (e ∷ es) fs h = is_sorted-put R o e.0 e.1 (joined R es fs) (joined_keys es fs h)

          is_joined : (es fs : List (K × ℕ)) (q : K) → is_some (find R q (joined R es fs)) ≡ (is_some (find R q es) || is_some (find R q fs))
          is_joined [] fs q = refl
          is_joined (e ∷ es) fs q = ap is_some (find-put R o q e.0 e.1 (joined R es fs)) ∙ elim (eq_by_cmp R q e.0) as (λ b. is_some (cond b (Some e.1) (find R q (joined R es fs))) ≡ (is_some (cond b (Some e.1) (find R q es)) || is_some (find R q fs))) [
            | true ↦ refl
            | false ↦ is_joined es fs q
          ]

          no_count : (es : List (K × ℕ)) (q : K) → is_some (find R q es) ≡ false → count R es q ≡ 0
          no_count es q h = elim (find R q es) as (λ r. is_some r ≡ false → unwrap_or r 0 ≡ 0) [ None ↦ λ _. refl | Some n ↦ λ e. cc ] h

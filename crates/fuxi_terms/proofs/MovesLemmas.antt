-- The changes of numbers, found one after another.
use Rattle.std.proofs.Common.{◌≡◌, ℕ, zero, suc, ◌+◌, ◌<◌, ◌≤◌, Bool, true, false, cond, nat_eq, List, [], ◌∷◌, ◌++◌, length, map, drop, get_or, append_assoc, append-nil, drop-cons, refl, sym, ◌∙◌, ap, subst, arith, add-one}
use Rattle.std.specs.Prelude.{ℤ, T}
use Rattle.std.specs.Ordering.{is_lt}
use Rattle.std.specs.List.{All, AllByRecursion}
use Rattle.std.specs.declared.cmp.Ordering.{Ordering}
use Rattle.std.specs.declared.cmp.Ordering.TheVariants.{Less}
use Rattle.std.specs.FinMap.Entries.{below_all, is_sorted}
use Rattle.std.proofs.lemmas.List.{drop_all}
use Rattle.std.proofs.lemmas.List.Elements.{All-from_recursion}
use Rattle.fuxi_terms.specs.Counts.{change_between, count}
use Rattle.std.proofs.lemmas.Bool.Decides.{nat_tests}
use Rattle.fuxi_terms.proofs.Booleans.{number_is}
use Rattle.fuxi_terms.proofs.CountsLemmas.{both_true, lesser}
use Rattle.fuxi_terms.proofs.Lists.{all_push}
use Rattle.fuxi_terms.specs.NumbersSet.{moves}

-- the numbers from an index on
pub rest_at : {A B : Type 0} (f : A → B) (xs : List A) (i : ℕ) (d : A) → i < length xs → map f (drop i xs) ≡ f (get_or xs i d) ∷ map f (drop (i + 1) xs)
rest_at f xs i d lt = ap (map f) (drop-cons xs i d lt ∙ ap (λ n. get_or xs i d ∷ drop n xs) (sym (add-one i)))

pub all_of : {A B : Type 0} (P : B → Type 0) (f : A → B) (xs : List A) (i : ℕ) (d : A) → i < length xs → AllByRecursion P (map f xs) → P (f (get_or xs i d))
all_of P f xs i d lt h = (subst (AllByRecursion P) (rest_at f xs i d lt) (all_drop xs i h)).0
  where
    all_drop : (xs : List _) (i : ℕ) → AllByRecursion P (map f xs) → AllByRecursion P (map f (drop i xs))
    all_drop xs zero h = h
    all_drop [] (suc i) h = h
    all_drop (x ∷ xs) (suc i) h = all_drop xs i h.1

pub rest_from : {A : Type 0} (xs : List A) (i : ℕ) (d : A) → i < length xs → drop i xs ≡ get_or xs i d ∷ drop (i + 1) xs
rest_from xs i d lt = drop-cons xs i d lt ∙ ap (λ n. get_or xs i d ∷ drop n xs) (sym (add-one i))

pub every : {A : Type 0} (P : A → Type 0) (xs : List A) (i : ℕ) (d : A) → i < length xs → AllByRecursion P xs → P (get_or xs i d)
every P xs i d lt h = (subst (AllByRecursion P) (rest_from xs i d lt) (all_drop xs i h)).0
  where
    all_drop : (xs : List _) (i : ℕ) → AllByRecursion P xs → AllByRecursion P (drop i xs)
    all_drop xs zero h = h
    all_drop [] (suc i) h = h
    all_drop (x ∷ xs) (suc i) h = all_drop xs i h.1

pub are_same : (a b c : ℕ) → a ≡ b → a ≡ c → nat_eq b c ≡ true
are_same a b c e f = let g : b ≡ c = sym e ∙ f in grind (arith, nat_tests, g)

pub are_others : (a b c : ℕ) → a ≡ b → (a ≡ c → ⊥) → nat_eq b c ≡ false
are_others a b c e f = by (nat_eq b c) refl
  where
    by : (t : Bool) → nat_eq b c ≡ t → t ≡ false
    by true t = absurd (f (e ∙ number_is b c t))
    by false t = refl

module _ {K : Type 0} (R : K → K → Ordering) where
  pub record IsMovesTo (es ns rest : List (K × ℕ)) (change : List (K × ℤ)) : Type 0 where
    pub made : change ++ moves R es rest ≡ moves R es ns
    pub below : AllByRecursion (λ c. T (below_all R c.0 rest)) change
    pub sorted : T (is_sorted R rest)

  pub moves_start : (es ns : List (K × ℕ)) → T (is_sorted R ns) → IsMovesTo es ns ns []
  moves_start es ns s = record { made = refl; below = tt; sorted = s }

  pub moves_end : (es ns rest : List (K × ℕ)) (change : List (K × ℤ)) → rest ≡ [] → IsMovesTo es ns rest change → change ≡ moves R es ns
  moves_end es ns rest change none t = sym (append-nil change) ∙ ap (λ r. change ++ moves R es r) (sym none) ∙ t.made

  tails : (n : K × ℕ) (rest : List (K × ℕ)) (cs : List (K × ℤ)) → AllByRecursion (λ c. T (below_all R c.0 (n ∷ rest))) cs → AllByRecursion (λ c. T (below_all R c.0 rest)) cs
  tails n rest [] h = tt
  tails n rest (c ∷ cs) h = ((both_true (is_lt (R c.0 n.0)) _ h.0).1, tails n rest cs h.1)

  heads : (n : K × ℕ) (rest : List (K × ℕ)) (cs : List (K × ℤ)) → AllByRecursion (λ c. T (below_all R c.0 (n ∷ rest))) cs → AllByRecursion (λ c. R c.0 n.0 ≡ Less) cs
  heads n rest [] h = tt
  heads n rest (c ∷ cs) h = (lesser _ (both_true (is_lt (R c.0 n.0)) _ h.0).0, heads n rest cs h.1)

  module _ (es ns now rest : List (K × ℕ)) (n : K × ℕ) (change : List (K × ℤ)) (is : now ≡ n ∷ rest) (t : IsMovesTo es ns now change) where
    here : IsMovesTo es ns (n ∷ rest) change
    here = subst (λ l. IsMovesTo es ns l change) is t

    pub moves_rise : All (λ c. R c.0 n.0 ≡ Less) change
    moves_rise = All-from_recursion (λ c. R c.0 n.0 ≡ Less) change (heads n rest change here.below)

    pub moves_skip : nat_eq (count R es n.0) n.1 ≡ true → IsMovesTo es ns rest change
    moves_skip same = record {
      made = ap (λ b. change ++ cond b (moves R es rest) ((n.0, change_between (count R es n.0) n.1) ∷ moves R es rest)) (sym same) ∙ here.made;
      below = tails n rest change here.below;
      sorted = (both_true (below_all R n.0 rest) (is_sorted R rest) here.sorted).1;
    }

    pub moves_put : (after : List (K × ℤ)) → nat_eq (count R es n.0) n.1 ≡ false → after ≡ change ++ (n.0, change_between (count R es n.0) n.1) ∷ [] → IsMovesTo es ns rest after
    moves_put after differs put = record {
      made = ap (λ l. l ++ moves R es rest) put ∙ append_assoc change ((n.0, change_between (count R es n.0) n.1) ∷ []) (moves R es rest)
          ∙ ap (λ b. change ++ cond b (moves R es rest) ((n.0, change_between (count R es n.0) n.1) ∷ moves R es rest)) (sym differs) ∙ here.made;
      below = subst (AllByRecursion (λ c. T (below_all R c.0 rest))) (sym put) (all_push (λ c. T (below_all R c.0 rest)) change (n.0, change_between (count R es n.0) n.1) (tails n rest change here.below) (both_true (below_all R n.0 rest) (is_sorted R rest) here.sorted).0);
      sorted = (both_true (below_all R n.0 rest) (is_sorted R rest) here.sorted).1;
    }

pub none_left : {A B : Type 0} (f : A → B) (xs : List A) (i : ℕ) → length xs ≤ i → map f (drop i xs) ≡ []
none_left f xs i le = ap (map f) (drop_all i xs le)

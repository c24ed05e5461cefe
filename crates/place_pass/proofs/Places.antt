-- Lists by place: what is read after one is written, mapped or counted up.
use Rattle.std.proofs.Common.{◌≡◌, ℕ, zero, suc, ◌<◌, ◌≤◌, List, [], ◌∷◌, ◌++◌, length, get_or, map, refl, sym, ◌∙◌, ap, subst, arith, inl, inr}
use Rattle.std.proofs.lemmas.Bool.{cases_lt}
use Rattle.std.proofs.lemmas.List.{get_or-map, length-map}
use Rattle.std.proofs.Math.ListN.{get_or-eq_default}
use Rattle.fuxi_terms.specs.Lists.{below}
use Rattle.fuxi_terms.proofs.Lists.{length-below}

pub get_or-below : (n i : ℕ) → i < n → get_or (below n) i 0 ≡ i
get_or-below zero i lt = absurd (omega (arith, lt))
get_or-below (suc n) i lt = last (below n) n i (length-below n) (λ k l. get_or-below n k l) lt
  where
    last : (xs : List ℕ) (n i : ℕ) → length xs ≡ n → ((k : ℕ) → k < n → get_or xs k 0 ≡ k) → i < suc n → get_or (xs ++ n ∷ []) i 0 ≡ i
    last xs n i e h lt = elim (cases_lt i n) [
      | inl l ↦ left xs (n ∷ []) i (omega (arith, l, e)) ∙ h i l
      | inr le ↦ let same : i ≡ n = omega (arith, lt, le) in right xs n i (omega (arith, same, e)) ∙ sym same
    ]
      where
        left : (xs ys : List ℕ) (i : ℕ) → i < length xs → get_or (xs ++ ys) i 0 ≡ get_or xs i 0
        left [] ys i l = absurd (omega (arith, l))
        left (x ∷ xs) ys zero l = refl
        left (x ∷ xs) ys (suc i) l = left xs ys i (omega (arith, l))

        right : (xs : List ℕ) (y i : ℕ) → i ≡ length xs → get_or (xs ++ y ∷ []) i 0 ≡ y
        right [] y i e = let z : i ≡ 0 = e in subst (λ k. get_or (y ∷ []) k 0 ≡ y) (sym z) refl
        right (x ∷ xs) y zero e = absurd (omega (arith, e))
        right (x ∷ xs) y (suc i) e = right xs y i (omega (arith, e))

-- a list that is counted up
pub counted_at : (f : ℕ → ℕ) (n i : ℕ) → i < n → get_or (map f (below n)) i 0 ≡ f i
counted_at f n i lt = get_or-map f (below n) i 0 0 (let l = length-below n in omega (arith, l, lt)) ∙ ap f (get_or-below n i lt)

pub counted_past : (f : ℕ → ℕ) (n i : ℕ) → n ≤ i → get_or (map f (below n)) i 0 ≡ 0
counted_past f n i le = get_or-eq_default (map f (below n)) 0 (let l = length-map (below n) f in let b = length-below n in omega (arith, l, b, le))

pub counted_long : (f : ℕ → ℕ) (n : ℕ) → length (map f (below n)) ≡ n
counted_long f n = length-map (below n) f ∙ length-below n

-- Numbers below one more, and a list by its places.
use Rattle.std.proofs.Common.{◌≡◌, inl, inr, ℕ, zero, suc, ◌+◌, ◌<◌, Bool, true, false, nat_eq, nat_lt, List, [], ◌∷◌, length, get_or, map, refl, sym, ◌∙◌, ap, arith}
use Rattle.std.specs.Prelude.{◌&&◌}
use Rattle.std.proofs.lemmas.Bool.{cases_lt}
use Rattle.std.proofs.lemmas.Bool.Decides.{nat_tests}
use Rattle.std.proofs.lemmas.List.{ext_get_or, get_or-map, get_or_append_left, get_or_at, length-map}
use Rattle.fuxi_terms.specs.Lists.{below}
use Rattle.fuxi_terms.proofs.Booleans.{false_and, false_right, number_is}
use Rattle.fuxi_terms.proofs.Lists.{length-below}

pub same_below : (m n : ℕ) → nat_eq m n ≡ false → nat_lt m n ≡ nat_lt m (n + 1)
same_below m n other = grind (arith, nat_tests, other)

pub none_below : (m : ℕ) (b : Bool) → (nat_lt m 0 && b) ≡ false
none_below m b = false_and (nat_lt m 0) b (let low : nat_lt m 0 ≡ false = grind (arith, nat_tests) in low)

pub all_below : (m n : ℕ) (b : Bool) → m < n → (nat_lt m n && b) ≡ b
all_below m n b lt = let low : nat_lt m n ≡ true = grind (arith, nat_tests, lt) in ap (λ t. t && b) low

-- a number that fails a test is none of those below one more that pass it
pub fails_below : (p : ℕ → Bool) (n m : ℕ) → p n ≡ false → (nat_lt m n && p m) ≡ (nat_lt m (n + 1) && p m)
fails_below p n m fails = by (nat_eq m n) refl
  where
    by : (b : Bool) → nat_eq m n ≡ b → (nat_lt m n && p m) ≡ (nat_lt m (n + 1) && p m)
    by true same =
        let off : p m ≡ false = ap p (number_is m n same) ∙ fails in
        false_right (nat_lt m n) (p m) off ∙ sym (false_right (nat_lt m (n + 1)) (p m) off)
    by false other = ap (λ t. t && p m) (same_below m n other)

got_below : (n m d : ℕ) → m < n → get_or (below n) m d ≡ m
got_below zero m d lt = absurd (omega (arith, lt))
got_below (suc n) m d lt = elim (cases_lt m n) [
  | inl less ↦ let long = length-below n in get_or_append_left (below n) (n ∷ []) d m (omega (arith, less, long)) ∙ got_below n m d less
  | inr last ↦ let same : n ≡ m = omega (arith, lt, last) in get_or_at (below n) n [] d m (length-below n ∙ same) ∙ same
]

-- a list that has at each place what a function gives there
pub by_places : {A : Type 0} (n : ℕ) (f : ℕ → A) (xs : List A) (d : A) → length xs ≡ n → ((m : ℕ) → m < n → get_or xs m d ≡ f m) → xs ≡ map f (below n)
by_places n f xs d long each =
    let wide = length-below n in
    ext_get_or d xs (map f (below n)) (long ∙ sym (length-map (below n) f ∙ wide))
    (λ m lt. let low : m < n = omega (arith, lt, long) in each m low ∙ sym (get_or-map f (below n) m 0 d (omega (arith, low, wide)) ∙ ap f (got_below n m 0 low)))

-- The numbers below another, and what is mapped over them.
use Rattle.std.proofs.Common.{◌≡◌, ℕ, zero, suc, ◌<◌, true, false, nat_eq, [], ◌∷◌, ◌++◌, length, map, get_or, ◌∙◌, ap, arith, inl, inr}
use Rattle.std.specs.Prelude.{◌||◌}
use Rattle.std.proofs.lemmas.Bool.{cases_lt}
use Rattle.std.proofs.lemmas.Bool.Decides.{nat_tests}
use Rattle.std.proofs.lemmas.List.{get_or-map, get_or_append_left}
use Rattle.std.proofs.Math.Seq.{get_or-append_seam}
use Rattle.std.proofs.lemmas.List.Folds.{list_any-append}
use Rattle.fuxi_terms.specs.Lists.{below}
use Rattle.fuxi_terms.specs.Numbers.{has_number}
use Rattle.fuxi_terms.proofs.Lists.{length-below}
use Rattle.fuxi_terms.proofs.Booleans.{or_right}

-- a number below another is one of those
pub is_below : (n m : ℕ) → m < n → has_number m (below n) ≡ true
is_below zero m lt = absurd (omega (arith, lt))
is_below (suc n) m lt = list_any-append (nat_eq m) (below n) (n ∷ []) ∙ elim (cases_lt m n) [
  | inl l ↦ ap (λ b. b || (nat_eq m n || false)) (is_below n m l)
  | inr le ↦ let same : nat_eq m n ≡ true = grind (arith, nat_tests, lt, le) in or_right (has_number m (below n)) _ (ap (λ b. b || false) same)
]

at_below : (n i : ℕ) → i < n → get_or (below n) i 0 ≡ i
at_below zero i lt = absurd (omega (arith, lt))
at_below (suc n) i lt = let long = length-below n in elim (cases_lt i n) [
  | inl l ↦ get_or_append_left (below n) (n ∷ []) 0 i (omega (arith, l, long)) ∙ at_below n i l
  | inr le ↦ let same : i ≡ length (below n) = omega (arith, lt, le, long) in ap (λ k. get_or (below n ++ n ∷ []) k 0) same ∙ get_or-append_seam (below n) n [] 0 ∙ omega (arith, lt, le)
]

pub mapped_below : (f : ℕ → ℕ) (n i : ℕ) → i < n → get_or (map f (below n)) i 0 ≡ f i
mapped_below f n i lt = get_or-map f (below n) i 0 0 (let l = length-below n in omega (arith, l, lt)) ∙ ap f (at_below n i lt)

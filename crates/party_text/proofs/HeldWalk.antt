-- A walk from each number that passes a test to the next is a walk over all that pass.
use Rattle.std.proofs.Common.{◌≡◌, ℕ, zero, suc, ◌+◌, ◌<◌, ◌≤◌, Bool, true, false, cond, [], ◌∷◌, ◌++◌, map, filter, append-nil, add-one, ◌∙◌, ap, arith, inl, inr}
use Rattle.std.proofs.lemmas.Bool.{cases_lt}
use Rattle.std.proofs.lemmas.List.{map-append}
use Rattle.std.proofs.lemmas.List.Elements.{filter-append}
use Rattle.fuxi_terms.specs.Lists.{below}

module _ (p : ℕ → Bool) where
  -- none of these is one more
  pub none_more : (from to : ℕ) → from ≤ to → ((n : ℕ) → from ≤ n → n < to → p n ≡ false) → filter p (below to) ≡ filter p (below from)
  none_more from zero le none = ap (λ n. filter p (below n)) (let e : 0 ≡ from = omega (arith, le) in e)
  none_more from (suc to) le none = elim (cases_lt to from) as (λ _. filter p (below (suc to)) ≡ filter p (below from)) [
    | inl lt ↦ ap (λ n. filter p (below n)) (let e : suc to ≡ from = omega (arith, lt, le) in e)
    | inr ge ↦
        filter-append p (below to) (to ∷ []) ∙ ap (λ b. filter p (below to) ++ cond b (to ∷ []) []) (none to ge (omega arith)) ∙ append-nil (filter p (below to))
        ∙ none_more from to ge (λ n l lt. none n l (omega (arith, lt)))
  ]

  -- the next that passes
  pub next_more : {L : Type 0} (f : ℕ → L) (from next : ℕ) → from ≤ next → p next ≡ true → ((n : ℕ) → from ≤ n → n < next → p n ≡ false) → map f (filter p (below (next + 1))) ≡ map f (filter p (below from)) ++ f next ∷ []
  next_more f from next le is none =
      ap (λ n. map f (filter p (below n))) (add-one next)
      ∙ ap (map f) (filter-append p (below next) (next ∷ []) ∙ ap (λ b. filter p (below next) ++ cond b (next ∷ []) []) is ∙ ap (λ l. l ++ next ∷ []) (none_more from next le none))
      ∙ map-append f (filter p (below from)) (next ∷ [])

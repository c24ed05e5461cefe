-- What holds of every spot of a table, after a number is set, taken out or put in.
use Rattle.std.proofs.Common.{◌≡◌, ℕ, ◌<◌, Bool, true, false, cond, not, nat_eq, [], ◌∷◌, Some, refl, sym, subst, arith}
use Rattle.std.specs.Option.{unwrap_or}
use Rattle.std.specs.List.{AllByRecursion}
use Rattle.std.specs.Ordering.{eq_by_cmp}
use Rattle.std.specs.declared.cmp.Ordering.TheVariants.{Less, Equal, Greater}
use Rattle.std.specs.FinMap.Entries.{by_order, find, put, where_key}
use Rattle.fuxi_terms.specs.Keys.{Spot, spot_cmp}
use Rattle.fuxi_terms.specs.Counts.{count, set_count}
use Rattle.fuxi_terms.proofs.CountsLemmas.{tied}
use Rattle.fuxi_terms.proofs.Booleans.{either}
use Rattle.fuxi_terms.proofs.KeyOrders.{same_spot}
use Rattle.fuxi_terms.specs.Tables.{Table}

abbrev pub Each : (Spot → Type 0) → Table → Type 0
Each P table = AllByRecursion (λ e. P e.0) table

module _ (P : Spot → Type 0) where
  pub each_put : (s : Spot) (n : ℕ) (es : Table) → P s → Each P es → Each P (put spot_cmp s n es)
  each_put s n [] l h = (l, tt)
  each_put s n (e ∷ es) l h = elim (spot_cmp s e.0) as (λ r. Each P (by_order r ((s, n) ∷ e ∷ es) ((e.0, n) ∷ es) (e ∷ put spot_cmp s n es))) [
    | Less ↦ (l, (h.0, h.1))
    | Equal ↦ (h.0, h.1)
    | Greater ↦ (h.0, each_put s n es l h.1)
  ]

  pub each_where : (p : Spot → Bool) (es : Table) → Each P es → Each P (where_key spot_cmp p es)
  each_where p [] h = tt
  each_where p (e ∷ es) h = elim (p e.0) as (λ b. Each P (cond b (e ∷ where_key spot_cmp p es) (where_key spot_cmp p es))) [ true ↦ (h.0, each_where p es h.1) | false ↦ each_where p es h.1 ]

  pub each_found : (s : Spot) (es : Table) → 0 < count spot_cmp es s → Each P es → P s
  each_found s [] some h = absurd (omega (arith, some))
  each_found s (e ∷ es) some h = elim (eq_by_cmp spot_cmp s e.0) as (λ b. eq_by_cmp spot_cmp s e.0 ≡ b → 0 < unwrap_or (cond b (Some e.1) (find spot_cmp s es)) 0 → P s) [
    | true ↦ λ t _. subst P (sym (same_spot s e.0 (tied _ t))) h.0
    | false ↦ λ _ some. each_found s es some h.1
  ] refl some

  -- a number is set: at a spot of which it holds, or to nothing
  pub each_set : (s : Spot) (n : ℕ) (es : Table) → (nat_eq n 0 ≡ false → P s) → Each P es → Each P (set_count spot_cmp es s n)
  each_set s n es l h = either (Each P) (nat_eq n 0) (where_key spot_cmp (λ x. not (eq_by_cmp spot_cmp s x)) es) (put spot_cmp s n es) (λ _. each_where (λ x. not (eq_by_cmp spot_cmp s x)) es h) (λ e. each_put s n es (l e) h)

-- Each entry of the map has a count that is not 0.
use Rattle.std.proofs.Common.{◌≡◌, ℕ, suc, ◌+◌, false, nat_eq, List, [], ◌∷◌, get_or, subst, arith}
use Rattle.fuxi_terms.specs.Keys.{Spot}
use Rattle.fuxi_terms.specs.Tables.{spot, Table}
use Rattle.fuxi_terms.proofs.Spots.{Each, each_set}
use Rattle.grant_table.specs.Nested.{counts_into, units_into, jobs_into, entries_of, count_at}

module _ (P : Spot → Type 0) where
  counts_each : (a u m : ℕ) (ns : List ℕ) (t : Table) → ((k : ℕ) → nat_eq (get_or ns k 0) 0 ≡ false → P (spot a u (m + k))) → Each P t → Each P (counts_into a u m ns t)
  counts_each a u m [] t h k = k
  counts_each a u m (n ∷ ns) t h k = each_set P (spot a u m) n (counts_into a u (m + 1) ns t) (λ e. let z : m + 0 ≡ m = omega arith in subst (λ x. P (spot a u x)) z (h 0 e))
      (counts_each a u (m + 1) ns t (λ i e. let z : m + suc i ≡ m + 1 + i = omega arith in subst (λ x. P (spot a u x)) z (h (suc i) e)) k)

  units_each : (a u : ℕ) (hs : List (List ℕ)) (t : Table) → ((k m : ℕ) → nat_eq (get_or (get_or hs k []) m 0) 0 ≡ false → P (spot a (u + k) m)) → Each P t → Each P (units_into a u hs t)
  units_each a u [] t h k = k
  units_each a u (x ∷ xs) t h k = counts_each a u 0 x (units_into a (u + 1) xs t)
      (λ i e. let z : u + 0 ≡ u = omega arith in let y : i ≡ 0 + i = omega arith in subst (λ x. P (spot a u x)) y (subst (λ x. P (spot a x i)) z (h 0 i e)))
      (units_each a (u + 1) xs t (λ i m e. let z : u + suc i ≡ u + 1 + i = omega arith in subst (λ x. P (spot a x m)) z (h (suc i) m e)) k)

  jobs_each : (a : ℕ) (vs : List (List (List ℕ))) (t : Table) → ((k u m : ℕ) → nat_eq (count_at vs k u m) 0 ≡ false → P (spot (a + k) u m)) → Each P t → Each P (jobs_into a vs t)
  jobs_each a [] t h k = k
  jobs_each a (v ∷ vs) t h k = units_each a 0 v (jobs_into (a + 1) vs t)
      (λ i m e. let z : a + 0 ≡ a = omega arith in let y : i ≡ 0 + i = omega arith in subst (λ x. P (spot a x m)) y (subst (λ x. P (spot x i m)) z (h 0 i m e)))
      (jobs_each (a + 1) vs t (λ i u m e. let z : a + suc i ≡ a + 1 + i = omega arith in subst (λ x. P (spot x u m)) z (h (suc i) u m e)) k)

  pub entries_each : (rows : List (List (List ℕ))) → ((a u m : ℕ) → nat_eq (count_at rows a u m) 0 ≡ false → P (spot a u m)) → Each P (entries_of rows)
  unfolding entries_of
  entries_each rows h = jobs_each 0 rows [] (λ a u m e. let y : a ≡ 0 + a = omega arith in subst (λ x. P (spot x u m)) y (h a u m e)) tt

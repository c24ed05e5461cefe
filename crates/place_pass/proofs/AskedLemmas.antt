-- What the cells of a demand that is taken over leave as it was: how many units there are, their priorities, and what is asked of other jobs.
use Rattle.std.proofs.Common.{◌≡◌, ◌≢◌, ℕ, zero, suc, ◌+◌, ◌<◌, true, false, cond, nat_eq, List, [], ◌∷◌, length, get_or, set, refl, ap, ◌∙◌, arith}
use Rattle.std.proofs.lemmas.Bool.Decides.{nat_tests}
use Rattle.std.proofs.lemmas.List.{get_or-set_other}
use Rattle.fuxi_terms.specs.Cluster.{ClusterRecord}
use Rattle.fuxi_terms.specs.declared.Key.{Key}
use Rattle.fuxi_terms.proofs.Booleans.{number_is}
use Rattle.place_pass.specs.Cells.{Cell, no_cell, cell_at, asks_at, asks_in, taken_all}
use Rattle.place_pass.proofs.CellsLemmas.{length-taken_all}
use Rattle.fuxi_terms.proofs.IndexedLists.{one_set}

module _ (c : ClusterRecord) (es : List (Key × ℕ)) (cells : List (List Cell)) (a : ℕ) (lt : a < length cells) where
  abbrev now : List (List Cell)
  now = set cells a (taken_all c es 0 (get_or cells a []))

  pub asked_long : (b : ℕ) → length (get_or now b []) ≡ length (get_or cells b [])
  asked_long b = ap length (one_set cells a b (taken_all c es 0 (get_or cells a [])) [] lt) ∙ elim (nat_eq a b) as (λ t. nat_eq a b ≡ t → length (cond t (taken_all c es 0 (get_or cells a [])) (get_or cells b [])) ≡ length (get_or cells b [])) [
    | true ↦ λ t. length-taken_all c es 0 (get_or cells a []) ∙ ap (λ x. length (get_or cells x [])) (number_is a b t)
    | false ↦ λ _. refl
  ] refl

  priority_taken : (n u : ℕ) (xs : List Cell) → (get_or (taken_all c es n xs) u no_cell).unit.priority ≡ (get_or xs u no_cell).unit.priority
  priority_taken n u [] = refl
  priority_taken n zero (x ∷ xs) = refl
  priority_taken n (suc u) (x ∷ xs) = priority_taken (n + 1) u xs

  pub asked_priority : (b u : ℕ) → (cell_at now b u).unit.priority ≡ (cell_at cells b u).unit.priority
  asked_priority b u = ap (λ ys. (get_or ys u no_cell).unit.priority) (one_set cells a b (taken_all c es 0 (get_or cells a [])) [] lt)
      ∙ elim (nat_eq a b) as (λ t. nat_eq a b ≡ t → (get_or (cond t (taken_all c es 0 (get_or cells a [])) (get_or cells b [])) u no_cell).unit.priority ≡ (cell_at cells b u).unit.priority) [
        | true ↦ λ t. priority_taken 0 u (get_or cells a []) ∙ ap (λ x. (cell_at cells x u).unit.priority) (number_is a b t)
        | false ↦ λ _. refl
      ] refl

  pub asked_others : (b : ℕ) (k : Key) → nat_eq b a ≡ false → asks_in now b k ≡ asks_in cells b k
  asked_others b k f = let d : b ≢ a = grind (arith, nat_tests, f) in ap (λ ys. asks_at (get_or ys k.unit no_cell) k) (get_or-set_other cells a b (taken_all c es 0 (get_or cells a [])) [] d)

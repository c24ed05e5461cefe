-- A line that loses pairs and to whose end others are appended with new turns: what is kept of it, and what the tree holds meanwhile.
use Rattle.std.proofs.Common.{◌≡◌, ℕ, ◌+◌, ◌-◌, ◌<◌, ◌≤◌, Bool, true, false, cond, not, nat_eq, List, [], ◌++◌, length, filter, take, get_or, slice_get, Some, refl, sym, ap, subst, ◌∙◌, arith}
use Rattle.std.specs.Prelude.{◌&&◌}
use Rattle.std.proofs.lemmas.List.{length-append}
use Rattle.std.proofs.Math.Seq.{take-append_seam}
use Rattle.fuxi_terms.specs.Cluster.{ClusterRecord}
use Rattle.fuxi_terms.specs.Keys.{Pair}
use Rattle.fuxi_terms.proofs.Alls.{all_filter}
use Rattle.fuxi_terms.proofs.Booleans.{both_true, or_right}
use Rattle.fuxi_terms.proofs.Lists.{all_at}
use Rattle.spec_roles.specs.Placing.{has_pair}
use Rattle.grant_table.specs.GrantTables.{TableRecord}
use Rattle.locality_tree.specs.Trees.{TreeRecord, is_admitted}
use Rattle.place_pass.specs.Best.{AreAdmitted}
use Rattle.place_pass.specs.Bounds.{turn_at, Rises}
use Rattle.place_pass.specs.Cells.{Cell, AreWishes}
use Rattle.place_pass.specs.Placers.{KeptRecord, IsKept}
use Rattle.place_pass.specs.PlacerTrees.{Holds, HoldsLine}
use Rattle.place_pass.proofs.CellsLemmas.{placed}
use Rattle.place_pass.proofs.FirstByTurn.{has_at}
use Rattle.place_pass.proofs.KeptLemmas.{kept_lined, rises_filter}
use Rattle.place_pass.proofs.WaitingLinesLemmas.{any_append, has_filter}
use Rattle.place_pass.proofs.CandidatesLemmas.{place_of}
use Rattle.place_pass.specs.WaitingLines.{same_pair}
use Rattle.place_pass.proofs.NumberedLemmas.{numbered_end, has_end}
use Rattle.place_pass.proofs.PlacerTreesLemmas.{admitted_in}
use Rattle.place_pass.proofs.StandsAfterChange.{holds_turned}
use Rattle.place_pass.proofs.StillLemmas.{joined_is, others_stay}

-- a line loses those that do not pass a test, and who passes it and was not there goes last, with a turn of its own
pub record IsLinedUp (line front all other : List Pair) (stayed : ℕ) (q : Pair → Bool) (k : KeptRecord) (turn_of : List ℕ) : Type 0 where
  pub kept : front ≡ filter q line
  pub waits : (p : Pair) → has_pair p all ≡ true → q p ≡ true
  pub appended : other ≡ front ++ filter (λ p. not (has_pair p front)) all
  pub long : stayed ≡ length front
  pub small : (a u : ℕ) → has_pair (a, u) line ≡ true → u < 8
  pub others : (a u : ℕ) → u < 8 → ((i : ℕ) → stayed ≤ i → slice_get other i ≡ Some (a, u) → ⊥) → turn_at turn_of a u ≡ turn_at k.turn_of a u

module _ {line front all other : List Pair} {stayed : ℕ} {q : Pair → Bool} {k : KeptRecord} {turn_of : List ℕ} (up : IsLinedUp line front all other stayed q k turn_of) where
  abbrev joined : List Pair
  joined = filter (λ p. not (has_pair p line)) all

  pub lined_is : other ≡ front ++ filter (λ p. not (has_pair p line)) all
  lined_is = joined_is line front all other q up.kept up.waits up.appended

  not_had : (p : Pair) → has_pair p joined ≡ true → has_pair p line ≡ false
  not_had p has = new (has_pair p line) (has_pair p all) (sym (has_filter (λ p. not (has_pair p line)) p all) ∙ has)
    where
      new : (x y : Bool) → (y && not x) ≡ true → x ≡ false
      new true true e = cc
      new true false e = cc
      new false y e = refl

  pub turns_stay : (a u : ℕ) → has_pair (a, u) line ≡ true → turn_at turn_of a u ≡ turn_at k.turn_of a u
  turns_stay a u has = up.others a u (up.small a u has) (λ i ge e.
      let j : has_pair (a, u) joined ≡ true = has_end stayed front joined other lined_is up.long i (a, u) ge e (λ q i g. has_at joined i q g) in
      let f : true ≡ false = sym has ∙ not_had (a, u) j in let g : ⊥ = cc in g)

  pub lined_kept : (cells : List (List Cell)) (o : List Bool) (turns : ℕ) (t : TableRecord) → ((i : ℕ) (p : Pair) → stayed ≤ i → slice_get other i ≡ Some p → turn_at turn_of p.0 p.1 ≡ turns + (i - stayed)) → AreAdmitted cells other → IsKept cells o line turns k t
      → IsKept cells o other (turns + length joined) (record k { turn_of = turn_of }) t
  lined_kept cells o turns t numbered admitted h = subst (λ (l : List Pair). IsKept cells o l (turns + length joined) (record k { turn_of = turn_of }) t) (sym lined_is)
      (kept_lined cells o line front joined turns k t turn_of q up.kept not_had (numbered_end (λ (p : Pair). turn_at turn_of p.0 p.1) turns stayed front joined other lined_is up.long numbered) (λ a u has _. turns_stay a u has) there h)
    where
      there : (a u : ℕ) → has_pair (a, u) joined ≡ true → u < length (get_or cells a [])
      there a u has =
          let place = place_of (a, u) other (ap (has_pair (a, u)) lined_is ∙ any_append (same_pair (a, u)) front joined ∙ or_right (has_pair (a, u) front) (has_pair (a, u) joined) has) in
          all_at (λ (p : Pair). p.1 < length (get_or cells p.0 [])) other place.place (a, u) admitted place.at

  -- those that stay are the first of the new line
  pub front_is : take stayed other ≡ front
  front_is = ap (λ n. take n other) up.long ∙ ap (take (length front)) lined_is ∙ take-append_seam front joined

  pub front_inside : stayed ≤ length other
  front_inside = let l = ap length lined_is ∙ length-append front joined in let n = up.long in omega (arith, l, n)

  pub front_holds : (c : ClusterRecord) (cells : List (List Cell)) (t : TreeRecord) → HoldsLine c cells front k.turn_of t → HoldsLine c cells (take stayed other) turn_of t
  front_holds c cells t h = subst (λ (l : List Pair). HoldsLine c cells l turn_of t) (sym front_is)
      (holds_turned c cells (λ p. has_pair p front) k.turn_of turn_of t (λ a u has. turns_stay a u (both_true (has_pair (a, u) line) (q (a, u)) (sym (ap (has_pair (a, u)) up.kept ∙ has_filter q (a, u) line) ∙ has)).0) h)

-- ---- a line that one unit leaves unless it waits
module _ (line : List Pair) (waits : Bool) (a u : ℕ) where
  pub told_admitted : (cells : List (List Cell)) → AreAdmitted cells line → AreAdmitted cells (cond waits line (filter (λ p. not (nat_eq p.0 a && nat_eq p.1 u)) line))
  told_admitted cells h = elim waits as (λ b. AreAdmitted cells (cond b line (filter (λ p. not (nat_eq p.0 a && nat_eq p.1 u)) line))) [
    | true ↦ h
    | false ↦ all_filter (λ (p : Pair). p.1 < length (get_or cells p.0 [])) (λ p. not (nat_eq p.0 a && nat_eq p.1 u)) line h
  ]

  pub told_rises : (f : Pair → ℕ) → Rises f line → Rises f (cond waits line (filter (λ p. not (nat_eq p.0 a && nat_eq p.1 u)) line))
  told_rises f h = elim waits as (λ b. Rises f (cond b line (filter (λ p. not (nat_eq p.0 a && nat_eq p.1 u)) line))) [
    | true ↦ h
    | false ↦ rises_filter f (λ p. not (nat_eq p.0 a && nat_eq p.1 u)) line h
  ]

  -- who waits after it waited before, and so do those of other jobs
  pub told_was : (p : Pair) → has_pair p (cond waits line (filter (λ p. not (nat_eq p.0 a && nat_eq p.1 u)) line)) ≡ true → has_pair p line ≡ true
  told_was p = elim waits as (λ b. has_pair p (cond b line (filter (λ p. not (nat_eq p.0 a && nat_eq p.1 u)) line)) ≡ true → has_pair p line ≡ true) [
    | true ↦ λ has. has
    | false ↦ λ has. (both_true (has_pair p line) _ (sym (has_filter (λ p. not (nat_eq p.0 a && nat_eq p.1 u)) p line) ∙ has)).0
  ]

  pub told_others : (b v : ℕ) → nat_eq a b ≡ false → has_pair (b, v) (cond waits line (filter (λ p. not (nat_eq p.0 a && nat_eq p.1 u)) line)) ≡ has_pair (b, v) line
  told_others b v f = elim waits as (λ x. has_pair (b, v) (cond x line (filter (λ p. not (nat_eq p.0 a && nat_eq p.1 u)) line)) ≡ has_pair (b, v) line) [
    | true ↦ refl
    | false ↦ others_stay line a u b v f
  ]

-- ---- a pair at a place of a line of admitted units
module _ {c : ClusterRecord} {cells : List (List Cell)} {o : List Bool} (wishes : AreWishes c cells o) (line : List Pair) (admitted : AreAdmitted cells line) (i : ℕ) {q : Pair} (at : slice_get line i ≡ Some q) where
  pub here_at : q.1 < length (get_or cells q.0 [])
  here_at = all_at (λ (p : Pair). p.1 < length (get_or cells p.0 [])) line i q admitted at

  pub placed_at : (q.0 < 256) × (q.1 < 8)
  placed_at = placed c cells o wishes q.0 q.1 here_at

  pub admitted_at : (waits : Pair → Bool) (turns : List ℕ) (t : TreeRecord) → Holds c cells waits turns t → is_admitted t q.0 q.1 ≡ true
  admitted_at waits turns t h = admitted_in c cells waits turns t q.0 q.1 h placed_at.1 here_at

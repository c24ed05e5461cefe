-- The units of the slots as those of all job numbers there may be; and those of one job before and after they take over a demand.
use Rattle.std.proofs.Common.{◌≡◌, ◌+◌, ◌-◌, ◌<◌, ◌≤◌, ℕ, suc, List, [], ◌∷◌, ◌++◌, map, length, get_or, set, refl, sym, ◌∙◌, ap, subst, arith, inl, inr, length-set}
use Rattle.std.specs.Prelude.{Bool, replicate}
use Rattle.std.specs.Global.{Vec}
use Rattle.std.proofs.lemmas.Bool.{cases_lt}
use Rattle.std.proofs.lemmas.List.{append_assoc, map-set, map_push, length-map, length_push, get_or-map, get_or_past, get_or_append_left, get_or-append_right, set-append_left}
use Rattle.fuxi_terms.specs.Cluster.{ClusterRecord}
use Rattle.fuxi_terms.specs.Counts.{AreCounts}
use Rattle.fuxi_terms.specs.Keys.{key_cmp}
use Rattle.fuxi_terms.specs.TallyKeys.{greatest_demand}
use Rattle.fuxi_terms.specs.declared.Key.{Key}
use Rattle.fuxi_terms.proofs.IndexedLists.{repeated_at, slot_within}
use Rattle.place_pass.specs.declared.demand.wishes.Wish.{Wish}
use Rattle.place_pass.specs.Cells.{Cell, WishesRecord, AreWishes, AreAbove, IsWish, no_cell, cell_of, cell_at, cells_in, cells_of, all_cells, wishes_record, taken_all}
use Rattle.place_pass.proofs.CellsLemmas.{above_taken, wishes_set, taken_wishes, length-taken_all}

module _ (slots : List (Vec Wish)) where
  abbrev behind : List (List Cell)
  behind = replicate (256 - length slots) []

  -- of each job number they are those of its slot
  pub all_at : (a : ℕ) → get_or (all_cells slots) a [] ≡ get_or (cells_of slots) a []
  all_at a = elim (cases_lt a (length (cells_of slots))) as (λ _. get_or (all_cells slots) a [] ≡ get_or (cells_of slots) a []) [
    | inl lt ↦ get_or_append_left (cells_of slots) behind [] a lt
    | inr ge ↦
        get_or-append_right (cells_of slots) behind (length (cells_of slots)) a [] refl ge ∙ repeated_at [] (256 - length slots) (a - length (cells_of slots))
        ∙ sym (get_or_past (cells_of slots) a [] ge)
  ]

  -- the units of one slot are others
  pub all_set : (a : ℕ) (v : Vec Wish) → a < length slots → all_cells (set slots a v) ≡ set (all_cells slots) a (cells_in v)
  all_set a v lt =
      let long : a < length (cells_of slots) = let n = length-map slots cells_in in omega (arith, lt, n) in
      ap (λ (k : ℕ). cells_of (set slots a v) ++ replicate (256 - k) []) (length-set slots a v) ∙ ap (λ (rows : List (List Cell)). rows ++ behind) (map-set cells_in slots a v)
      ∙ sym (set-append_left (cells_of slots) behind a (cells_in v) long)

  -- a slot more has no unit yet
  pub all_more : (v : Vec Wish) → length slots < 256 → v.items ≡ [] → all_cells (slots ++ v ∷ []) ≡ all_cells slots
  all_more v room none =
      let left : ℕ = 256 - (length slots + 1) in
      let one : suc left ≡ 256 - length slots = omega (arith, room) in
      ap (λ (k : ℕ). cells_of (slots ++ v ∷ []) ++ replicate (256 - k) []) (length_push slots v) ∙ ap (λ (rows : List (List Cell)). rows ++ replicate left []) (map_push cells_in slots v)
      ∙ append_assoc (cells_of slots) (cells_in v ∷ []) (replicate left []) ∙ ap (λ (ws : List Wish). cells_of slots ++ map cell_of ws ∷ replicate left []) none
      ∙ ap (λ (k : ℕ). cells_of slots ++ replicate k []) one

  -- a job with a unit has a slot
  module _ {w : WishesRecord} (k : ClusterRecord) (o : List Bool) (a : ℕ) (seen : wishes_record k slots o ≡ w) where
    pub unit_in_slot : (u : ℕ) → u < length (get_or w.cells a []) → u < length (get_or (cells_of slots) a [])
    unit_in_slot u lt = subst (λ (xs : List Cell). u < length xs) (all_at a) (subst (λ (x : WishesRecord). u < length (get_or x.cells a [])) (sym seen) lt)

    pub slot_there : (u : ℕ) → u < length (get_or w.cells a []) → a < length slots
    slot_there u lt =
        let within = slot_within (cells_of slots) a u (unit_in_slot u lt) in
        let n = length-map slots cells_in in
        omega (arith, within, n)

    pub cell_in_slot : (u : ℕ) → cell_at (cells_of slots) a u ≡ cell_at w.cells a u
    cell_in_slot u = ap (λ (xs : List Cell). get_or xs u no_cell) (sym (all_at a)) ∙ ap (λ (x : WishesRecord). cell_at x.cells a u) seen

-- with no slot there is no unit
pub all_start : (slots : List (Vec Wish)) → slots ≡ [] → all_cells slots ≡ replicate 256 []
all_start slots e = ap all_cells e

module _ {w : WishesRecord} (k : ClusterRecord) (slots : List (Vec Wish)) (o : List Bool) (a : ℕ) (v : Vec Wish) (h : AreWishes k (all_cells slots) o) (seen : wishes_record k slots o ≡ w) (here : 0 < length (get_or w.cells a []))
    (e : v ≡ get_or slots a v) where
  -- the units of the job are those of its slot
  pub slot_cells : cells_in v ≡ get_or (all_cells slots) a []
  slot_cells = ap cells_in e ∙ sym (all_at slots a ∙ get_or-map cells_in slots a v [] (slot_there slots k o a seen 0 here))

  pub few_in_slot : length v.items ≤ 8
  few_in_slot =
      let same = ap length slot_cells in
      let n = length-map v.items cell_of in
      let f = h.few a in
      omega (arith, same, n, f)

  pub each_in_slot : (u : ℕ) → u < length v.items → IsWish k (get_or (cells_in v) 0 no_cell) (get_or (cells_in v) u no_cell)
  each_in_slot u l =
      let n = length-map v.items cell_of in
      let same = ap length slot_cells in
      subst (λ xs. IsWish k (get_or xs 0 no_cell) (get_or xs u no_cell)) (sym slot_cells) (h.unit a u (omega (arith, l, n, same)))

  module _ (es : List (Key × ℕ)) (new : Vec Wish) (is : cells_in new ≡ taken_all k es 0 (cells_in v)) where
    pub slot_taken : all_cells (set slots a new) ≡ set (all_cells slots) a (taken_all k es 0 (get_or (all_cells slots) a []))
    slot_taken = all_set slots a new (slot_there slots k o a seen 0 here) ∙ ap (λ ys. set (all_cells slots) a ys) (is ∙ ap (taken_all k es 0) slot_cells)

    -- they are still wishes
    pub slot_wishes : (least : List ℕ) → AreCounts key_cmp greatest_demand es → AreAbove least (all_cells slots) → AreWishes k (all_cells (set slots a new)) o × AreAbove least (all_cells (set slots a new))
    slot_wishes least counts above =
        let xs = get_or (all_cells slots) a [] in
        let there = slot_within (all_cells slots) a 0 (subst (λ (x : WishesRecord). 0 < length (get_or x.cells a [])) (sym seen) here) in
        let n = length-taken_all k es 0 xs in
        let few = h.few a in
        subst (λ x. AreWishes k x o × AreAbove least x) (sym slot_taken)
        (wishes_set k (all_cells slots) o a (taken_all k es 0 xs) h there (omega (arith, n, few)) (taken_wishes k es xs counts (h.unit a)), above_taken k es least (all_cells slots) a above there)

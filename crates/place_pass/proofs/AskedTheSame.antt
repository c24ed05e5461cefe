-- A unit of which a demand asks the same: nothing more is asked of it, and it stands where it stood.
use Rattle.std.proofs.Common.{◌≡◌, ℕ, ◌<◌, true, false, List, [], length, get_or, set, sym, ◌∙◌, ap, arith}
use Rattle.std.specs.Prelude.{◌||◌, nat_lt}
use Rattle.std.proofs.lemmas.Bool.Decides.{nat_tests}
use Rattle.std.proofs.lemmas.List.{get_or-set_same}
use Rattle.fuxi_terms.specs.Cluster.{ClusterRecord}
use Rattle.fuxi_terms.specs.declared.Key.{Key}
use Rattle.fuxi_terms.specs.Keys.{key_cmp}
use Rattle.fuxi_terms.specs.Counts.{count}
use Rattle.fuxi_terms.specs.TallyKeys.{key, avoid_key, want_key}
use Rattle.fuxi_terms.specs.Keys.{Pair}
use Rattle.fuxi_terms.specs.TallyKeys.{near_key, rack_key}
use Rattle.fuxi_terms.specs.Tables.{Table, held_on, held_in}
use Rattle.fuxi_terms.proofs.Lists.{all_at}
use Rattle.spec_roles.specs.Placing.{has_pair}
use Rattle.locality_tree.specs.Trees.{TreeRecord}
use Rattle.place_pass.specs.Best.{AreAdmitted}
use Rattle.place_pass.specs.Cells.{Cell, no_cell, cell_at, asks_at, taken, taken_all, is_gone, any_gone, asks_more}
use Rattle.place_pass.specs.PlacerTrees.{StandsAs}
use Rattle.place_pass.proofs.CellsLemmas.{get_or-taken_all}
use Rattle.place_pass.proofs.Places.{counted_at}
use Rattle.place_pass.proofs.CandidatesLemmas.{place_of}
use Rattle.place_pass.proofs.IdleKept.{any_none}

stays : (n : ℕ) → is_gone n n ≡ false
stays n = grind (arith, nat_tests)

pub same_no_more : (c : ClusterRecord) (es : List (Key × ℕ)) (u : ℕ) (x : Cell) → taken c es u x ≡ x → asks_more c es u x ≡ false
same_no_more c es u x same =
    let wants : count key_cmp es (want_key u) ≡ x.want = ap (λ (y : Cell). y.want) same in
    let rises : nat_lt x.want (count key_cmp es (want_key u)) ≡ false = grind (arith, nat_tests, wants) in
    let each : (m : ℕ) → m < length c.machines → is_gone (get_or x.avoided m 0) (count key_cmp es (key 4 u m)) ≡ false = λ m lt.
    let at : get_or x.avoided m 0 ≡ count key_cmp es (key 4 u m) = ap (λ (y : Cell). get_or y.avoided m 0) (sym same) ∙ counted_at (λ n. count key_cmp es (key 4 u n)) (length c.machines) m lt in
    ap (λ n. is_gone n (count key_cmp es (key 4 u m))) at ∙ stays (count key_cmp es (key 4 u m)) in
    ap (λ b. b || any_gone es 4 u x.avoided (length c.machines)) rises ∙ any_none (λ m. is_gone (get_or x.avoided m 0) (count key_cmp es (key 4 u m))) (length c.machines) each

-- a machine that it avoids is avoided still
pub still_same : (c : ClusterRecord) (es : List (Key × ℕ)) (u m : ℕ) (x : Cell) → m < length c.machines → taken c es u x ≡ x → 0 < get_or x.avoided m 0 → 0 < count key_cmp es (avoid_key u m)
still_same c es u m x lt same was =
    let at : get_or x.avoided m 0 ≡ count key_cmp es (avoid_key u m) = ap (λ (y : Cell). get_or y.avoided m 0) (sym same) ∙ counted_at (λ n. count key_cmp es (avoid_key u n)) (length c.machines) m lt in
    omega (arith, at, was)

pub stands_alike : (c : ClusterRecord) (cells cells' : List (List Cell)) (es : Table) (a u : ℕ) (t : TreeRecord) → cell_at cells' a u ≡ cell_at cells a u → StandsAs c cells es a u t → StandsAs c cells' es a u t
stands_alike c cells cells' es a u t e h = record {
  near = λ m lt. h.near m lt ∙ ap (λ x. nat_lt (held_on es a u m) (asks_at x (near_key u m))) (sym e);
  racks = λ r lt. h.racks r lt ∙ ap (λ x. nat_lt (held_in c es a u r) (asks_at x (rack_key u r))) (sym e);
}

-- the cell of a unit of the line, of which the demand asks the same
pub cell_alike : (c : ClusterRecord) (es : List (Key × ℕ)) (cells : List (List Cell)) (line : List Pair) (a u : ℕ) → a < length cells → AreAdmitted cells line → has_pair (a, u) line ≡ true
    → (u < length (get_or cells a []) → taken c es u (cell_at cells a u) ≡ cell_at cells a u) → cell_at (set cells a (taken_all c es 0 (get_or cells a []))) a u ≡ cell_at cells a u
cell_alike c es cells line a u lt admitted has same =
    let place = place_of (a, u) line has in
    let l = all_at (λ (p : Pair). p.1 < length (get_or cells p.0 [])) line place.place (a, u) admitted place.at in
    ap (λ xs. get_or xs u no_cell) (get_or-set_same cells a (taken_all c es 0 (get_or cells a [])) [] lt) ∙ get_or-taken_all c es 0 u u (get_or cells a []) (omega arith) l ∙ same l

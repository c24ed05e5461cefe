-- A search on one machine, a step at a time along its path.
use Rattle.std.proofs.Common.{◌≡◌, ℕ, ◌-◌, ◌*◌, ◌+◌, ◌<◌, ◌≤◌, Bool, true, false, nat_eq, nat_lt, List, [], ◌∷◌, Option, None, Some, length, get_or, refl, sym, ◌∙◌, ap, subst, arith}
use Rattle.std.proofs.lemmas.Bool.Decides.{nat_tests}
use Rattle.std.specs.Prelude.{◌&&◌}
use Rattle.fuxi_terms.proofs.Booleans.{number_is, and_false}
use Rattle.fuxi_terms.specs.Keys.{Pair}
use Rattle.grant_table.specs.GrantTables.{IsSound}
use Rattle.spec_roles.specs.Masters.{out_of}
use Rattle.spec_roles.specs.Placing.{has_pair, accepts_in, has_room_in}
use Rattle.wait_queue.specs.declared.node.Entry.{Entry}
use Rattle.locality_tree.specs.declared.path.Path.{Path}
use Rattle.locality_tree.specs.Trees.{RankedEntry, level_at}
use Rattle.locality_tree.specs.Paths.{Leads, Gives}
use Rattle.place_pass.specs.Bounds.{MarkRecord, mark_at, key_of, rank_at, IsBounded, AreBoundedLater}
use Rattle.place_pass.specs.Cells.{asks_in}
use Rattle.place_pass.specs.Scenes.{board_in, CanSearch, IsBestOn, IsMarked, AreMarked}
use Rattle.place_pass.specs.Candidates.{sight_rank, turn_in}
use Rattle.place_pass.specs.PlacerTrees.{entry_for}
use Rattle.place_pass.specs.declared.search.SearchInput.{SearchInput}
use Rattle.place_pass.specs.declared.search.Candidate.{Candidate}
use Rattle.place_pass.proofs.PathLemmas.{Walk, IsHead, rank_in_path, head_of, none_left, walk_over, walk_on, head_waits, head_level, head_least, admitted_at, path_ranks, path_lows}
use Rattle.place_pass.proofs.CandidatesLemmas.{key_bounds, bounded_apart_from}
use Rattle.place_pass.proofs.PlacerTreesLemmas.{IsOfLine}

abbrev pub WalkOn : SearchInput → ℕ → List Bool → Path → ℕ → Type 0
WalkOn s m groups p left = Walk s.wishes.now.cluster s.wishes.now.cells s.line.now.pairs s.turn_of.now s.table.now.entries s.tree.now m (board_in s) groups p left

-- what the path gives next
abbrev pub GivesNext : Path → Path → Option RankedEntry → Type 0
GivesNext p p' given = (rest : List RankedEntry) → Leads p rest → Gives rest given (Leads p')

-- a step of a walk gives this pair
pub record IsStep (s : SearchInput) (m : ℕ) (groups : List Bool) (p p' : Path) (left : ℕ) (x : RankedEntry) : Type 0 where
  pub walk : WalkOn s m groups p left
  pub head : IsHead walk.rest x (Leads p')

pub step_of : (s : SearchInput) (m : ℕ) (groups : List Bool) (p p' : Path) (left : ℕ) (given : Option RankedEntry) (x : RankedEntry) → WalkOn s m groups p left → GivesNext p p' given → given ≡ Some x → IsStep s m groups p p' left x
step_of s m groups p p' left given x w gives is = record { walk = w; head = head_of w.rest given x (Leads p') (gives w.rest w.leads) is }

-- at its end no pair of the line may be placed but where its group is noted
pub walk_ends : (s : SearchInput) (m : ℕ) (groups : List Bool) (p p' : Path) (left : ℕ) (given : Option RankedEntry) → WalkOn s m groups p left → GivesNext p p' given → given ≡ None
    → (q : Pair) → has_pair q s.line.now.pairs ≡ true → IsBounded (board_in s) s.table.now.entries None groups (turn_in s.turn_of.now q) q m
walk_ends s m groups p p' left given w gives is q has =
    walk_over s.wishes.now.cluster s.wishes.now.cells s.line.now.pairs s.turn_of.now s.table.now.entries s.tree.now m (board_in s) groups p left w (none_left w.rest given (Leads p') (gives w.rest w.leads) is) q has

module _ (s : SearchInput) (r : CanSearch s) (sound : IsSound s.table.now) (m : ℕ) (inside : m < length s.table.now.cluster.machines) (groups : List Bool) (p p' : Path) (left : ℕ) (x : RankedEntry) (step : IsStep s m groups p p' left x) where
  pub of_line : IsOfLine s.wishes.now.cells (λ q. has_pair q s.line.now.pairs) s.turn_of.now (8 * x.0.app.0 + x.0.unit.0) x.0
  of_line = head_waits s.wishes.now.cluster s.wishes.now.cells s.line.now.pairs s.turn_of.now s.table.now.entries s.tree.now m r.tree (board_in s) groups p left step.walk x (Leads p') step.head

  pub step_admitted : x.0.unit.0 < length (get_or s.wishes.now.cells x.0.app.0 [])
  step_admitted = admitted_at s.wishes.now.cluster s.wishes.now.cells s.wishes.now.opened s.line.now.pairs s.turn_of.now s.table.now s.tree.now m r.level sound r.tree r.admitted inside x.0.app.0 x.0.unit.0 of_line.waiting

  -- where it may not be placed the walk goes on
  pub step_on : (groups' : List Bool) → 0 < left → ((g : ℕ) → get_or groups g false ≡ true → get_or groups' g false ≡ true)
      → IsBounded (board_in s) s.table.now.entries None groups' (turn_in s.turn_of.now (x.0.app.0, x.0.unit.0)) (x.0.app.0, x.0.unit.0) m → WalkOn s m groups' p' (left - 1)
  step_on groups' some kept passed = walk_on s.wishes.now.cluster s.wishes.now.cells s.line.now.pairs s.turn_of.now s.table.now.entries s.tree.now m (board_in s) groups groups' p p' left (left - 1) step.walk x step.head (omega (arith, some)) kept passed

  pub step_out : nat_lt 0 (out_of (asks_in s.wishes.now.cells) s.table.now.entries x.0.app.0 x.0.unit.0) ≡ true
  step_out = let some = r.waits x.0.app.0 x.0.unit.0 of_line.waiting in grind (arith, nat_tests, some)

  ranks : (q : Pair) → has_pair q s.line.now.pairs ≡ true → rank_in_path (entry_for s.wishes.now.cells s.turn_of.now q.0 q.1, level_at s.tree.now q.0 q.1 m) ≡ rank_at (board_in s) s.table.now.entries (turn_in s.turn_of.now q) q m
  ranks = path_ranks s.wishes.now.cluster s.wishes.now.cells s.wishes.now.opened s.line.now.pairs s.turn_of.now s.table.now s.tree.now m r.level sound r.tree r.admitted inside

  lows : (q : Pair) → has_pair q s.line.now.pairs ≡ true → (entry_for s.wishes.now.cells s.turn_of.now q.0 q.1).priority ≤ 9
  lows = path_lows s.wishes.now.cluster s.wishes.now.cells s.wishes.now.opened s.line.now.pairs s.turn_of.now s.table.now s.tree.now m r.level sound r.tree r.admitted inside

  -- its rank, by which no pair of the line comes before it that may be placed
  module _ (late turn : ℕ) (late_is : late ≡ 9 - x.0.priority) (turn_is : turn ≡ turn_in s.turn_of.now (x.0.app.0, x.0.unit.0)) where
    same : rank_in_path x ≡ (late ∷ x.1 ∷ turn ∷ [])
    same = let t : x.0.turn ≡ turn = ap (λ (e : Entry). e.turn) of_line.is ∙ sym turn_is in λ j. sym late_is j ∷ x.1 ∷ t j ∷ []

    pub step_least : (q : Pair) → has_pair q s.line.now.pairs ≡ true → IsBounded (board_in s) s.table.now.entries (Some (late ∷ x.1 ∷ turn ∷ [])) groups (turn_in s.turn_of.now q) q m
    step_least =
        let low = subst (λ n. n ≤ 9) (sym (ap (λ (e : Entry). e.priority) of_line.is)) (lows (x.0.app.0, x.0.unit.0) of_line.waiting) in
        head_least s.wishes.now.cluster s.wishes.now.cells s.line.now.pairs s.turn_of.now s.table.now.entries s.tree.now m (board_in s) groups p left step.walk x (Leads p') step.head (late ∷ x.1 ∷ turn ∷ []) same low ranks lows

    pub step_rank : (late ∷ x.1 ∷ turn ∷ []) ≡ rank_at (board_in s) s.table.now.entries (turn_in s.turn_of.now (x.0.app.0, x.0.unit.0)) (x.0.app.0, x.0.unit.0) m
    step_rank =
        let level = head_level s.wishes.now.cluster s.wishes.now.cells s.line.now.pairs s.turn_of.now s.table.now.entries s.tree.now m (board_in s) groups p left step.walk x (Leads p') step.head in
        let pair : x ≡ (entry_for s.wishes.now.cells s.turn_of.now x.0.app.0 x.0.unit.0, level_at s.tree.now x.0.app.0 x.0.unit.0 m) = λ j. (of_line.is j, level j) in
        sym same ∙ ap rank_in_path pair ∙ ranks (x.0.app.0, x.0.unit.0) of_line.waiting

-- ---- marks: that of an open machine bounds all pairs of the line by its key
pub key_seen : (s : SearchInput) → CanSearch s → (m : ℕ) (k : MarkRecord) → IsMarked s m k → get_or s.wishes.now.opened m false ≡ true → (bound : Option (List ℕ)) → key_of k s.turns ≡ bound
    → (q : Pair) → has_pair q s.line.now.pairs ≡ true → IsBounded (board_in s) s.table.now.entries bound k.groups (turn_in s.turn_of.now q) q m
key_seen s r m k marked opened bound is q has =
    subst (λ o. IsBounded (board_in s) s.table.now.entries o k.groups (turn_in s.turn_of.now q) q m) is (key_bounds (board_in s) s.table.now.entries (turn_in s.turn_of.now) s.line.now.pairs k m s.turns r.below (marked.bounded opened) q has)

-- where a machine has no room for any admitted unit, any bound will do
pub full_bounds : (s : SearchInput) (m : ℕ) → ((a u : ℕ) → u < length (get_or s.wishes.now.cells a []) → has_room_in s.table.now.cluster (board_in s).sizes s.table.now.entries a u m ≡ false)
    → (bound : Option (List ℕ)) (groups : List Bool) (turn a u : ℕ) → u < length (get_or s.wishes.now.cells a []) → IsBounded (board_in s) s.table.now.entries bound groups turn (a, u) m
full_bounds s m none bound groups turn a u here =
    bounded_apart_from (board_in s) s.table.now.entries bound groups turn (a, u) m
    (ap (λ b. accepts_in (board_in s) s.table.now.entries a u m && b) (none a u here) ∙ and_false (accepts_in (board_in s) s.table.now.entries a u m))

-- after a look it is exact
pub mark_looked : (s : SearchInput) (m : ℕ) (k : MarkRecord) (best : Option Candidate) → IsBestOn s m k.groups best → k.bound ≡ sight_rank best → AreBoundedLater (board_in s) s.table.now.entries s.wishes.now.cells s.turns k m → IsMarked s m k
mark_looked s m k best seen bound later = record {
  bounded = λ opened. record { bounded = λ q has lt. subst (λ o. IsBounded (board_in s) s.table.now.entries o k.groups (turn_in s.turn_of.now q) q m) (sym bound) (seen.bounded q has) };
  later = λ opened. later;
}

-- one mark more is right, and the others are as they were
pub marked_then : (s : SearchInput) (old new : List MarkRecord) (n : ℕ) → AreMarked s old → IsMarked s n (mark_at new n) → ((m : ℕ) → nat_eq n m ≡ false → mark_at new m ≡ mark_at old m) → AreMarked s new
marked_then s old new n were here others m = elim (nat_eq n m) as (λ t. nat_eq n m ≡ t → IsMarked s m (mark_at new m)) [
  | true ↦ λ t. subst (λ z. IsMarked s z (mark_at new z)) (number_is n m t) here
  | false ↦ λ f. subst (IsMarked s m) (sym (others m f)) (were m)
] refl

-- What a search reads, when it may run, and what it says of one machine.
use Rattle.std.specs.Prelude.{◌≡◌, ◌≢◌, ℕ, ◌<◌, Bool, true, false, List, length, Option, None, Some, IfSome}
use Rattle.std.proofs.Common.{get_or}
use Rattle.fuxi_terms.specs.Keys.{Pair}
use Rattle.spec_roles.specs.Masters.{out_of}
use Rattle.spec_roles.specs.Placing.{Board, has_pair}
use Rattle.place_pass.specs.declared.marks.mark.Rank.{Rank}
use Rattle.place_pass.specs.declared.search.BestFound.{BestFound}
use Rattle.place_pass.specs.declared.search.SearchInput.{SearchInput}
use Rattle.place_pass.specs.declared.search.Candidate.{Candidate}
use Rattle.place_pass.specs.Best.{AreAdmitted}
use Rattle.place_pass.specs.Bounds.{MarkRecord, mark_at, key_of, rank_of, rank_at, is_bound, Rises, IsBounded, AreBoundedLater}
use Rattle.place_pass.specs.Cells.{asks_in, job_at, unit_places}
use Rattle.place_pass.specs.Placers.{AreLevel, board_over}
use Rattle.place_pass.specs.Candidates.{sight_rank, found_rank, turn_in, IsSight, IsFound, IsLeast, AreBounded}
use Rattle.place_pass.specs.PlacerTrees.{TreeOf}

abbrev pub board_in : SearchInput → Board
board_in s = board_over s.wishes.now.cells s.wishes.now.opened s.table.now

-- The table has the jobs of which is asked, each pair of the line is an admitted unit with something out, their turns rise and are below the next one, and the
-- tree is that of the line
pub record CanSearch (s : SearchInput) : Type 0 where
  pub level : AreLevel s.wishes.now.cluster (job_at s.wishes.now.cells) s.table.now
  pub admitted : AreAdmitted s.wishes.now.cells s.line.now.pairs
  pub places : length s.turn_of.now ≡ unit_places
  pub waits : (a u : ℕ) → has_pair (a, u) s.line.now.pairs ≡ true → out_of (asks_in s.wishes.now.cells) s.table.now.entries a u ≢ 0
  pub rises : Rises (turn_in s.turn_of.now) s.line.now.pairs
  pub below : (q : Pair) → has_pair q s.line.now.pairs ≡ true → turn_in s.turn_of.now q < s.turns
  pub tree : TreeOf s.wishes.now.cluster s.wishes.now.cells s.line.now.pairs s.turn_of.now s.table.now.entries s.tree.now

-- what is seen on a machine: a placeable pair that no other of the line comes before there but those whose groups are noted, or none
pub record IsBestOn (s : SearchInput) (m : ℕ) (groups : List Bool) (best : Option Candidate) : Type 0 where
  pub bounded : (q : Pair) → has_pair q s.line.now.pairs ≡ true → IsBounded (board_in s) s.table.now.entries (sight_rank best) groups (turn_in s.turn_of.now q) q m
  pub sight : IfSome best (λ x. IsSight (board_in s) s.table.now.entries (turn_in s.turn_of.now) s.line.now.pairs m x)

-- the mark of a machine is right where the machine is open, and it says that nothing is placeable there
pub record IsMarked (s : SearchInput) (m : ℕ) (k : MarkRecord) : Type 0 where
  pub bounded : get_or s.wishes.now.opened m false ≡ true → AreBounded (board_in s) s.table.now.entries (turn_in s.turn_of.now) s.line.now.pairs k m
  pub later : get_or s.wishes.now.opened m false ≡ true → AreBoundedLater (board_in s) s.table.now.entries s.wishes.now.cells s.turns k m

abbrev pub IsSettledBy : SearchInput → ℕ → MarkRecord → Type 0
IsSettledBy s m k = get_or s.wishes.now.opened m false ≡ true → key_of k s.turns ≡ None

-- the mark of each open machine is right
abbrev pub AreMarked : SearchInput → List MarkRecord → Type 0
AreMarked s marks = (m : ℕ) → IsMarked s m (mark_at marks m)

-- a pair may be granted on its machine, and no pair may on this machine that comes before the best
abbrev pub IsFoundIn : SearchInput → BestFound → Type 0
IsFoundIn s x = IsFound (board_in s) s.table.now.entries (turn_in s.turn_of.now) s.line.now.pairs x

abbrev pub IsLeastOn : SearchInput → Option BestFound → ℕ → Type 0
IsLeastOn s best m = IsLeast (board_in s) s.table.now.entries (turn_in s.turn_of.now) s.line.now.pairs (found_rank best) m

-- no pair of the line comes before a rank on any machine
pub record IsEarliest (s : SearchInput) (x : Rank) : Type 0 where
  pub bounded : (q : Pair) (m : ℕ) → has_pair q s.line.now.pairs ≡ true → is_bound (Some (rank_of x)) (rank_at (board_in s) s.table.now.entries (turn_in s.turn_of.now q) q m) ≡ true

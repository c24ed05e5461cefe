-- Changing lists of counts, and the laws of their differences.
use Rattle.std.specs.Prelude.{◌≡◌, ℕ, ℤ, List, Result, Ok}
use Rattle.std.specs.declared.cmp.Ordering.{Ordering}
use Rattle.fuxi_terms.specs.declared.Key.{Key}
use Rattle.fuxi_terms.specs.Keys.{key_cmp}
use Rattle.fuxi_terms.specs.Counts.{change_all, difference, AreCounts, AreChanges}
use Rattle.fuxi_terms.specs.Tallies.{TallyRecord, ChangeRecord, patched_tally, tally_difference}

-- why a change is refused: the number would fall below 0, or rise above the greatest of its key
pub data PatchFault (K : Type 0) : Type 0 where
  Below : (key : K) → (kept : ℕ) → (change : ℤ) → PatchFault K
  TooGreat : (key : K) → PatchFault K

-- the changed counts, or the first refusal
abbrev pub patched : {K : Type 0} → (K → K → Ordering) → (K → ℕ) → List (K × ℕ) → List (K × ℤ) → Result (List (K × ℕ)) (PatchFault K)
patched R greatest old changes = change_all R Below TooGreat greatest old changes

-- patching with the difference gives the second list of counts, and of changes in order, none of them 0, only the difference does
pub record PatchedByDifference {K : Type 0} (R : K → K → Ordering) (greatest : K → ℕ) : Type 0 where
  pub reaches : (old new : List (K × ℕ)) → AreCounts R greatest old → AreCounts R greatest new → patched R greatest old (difference R old new) ≡ Ok new
  pub alone : (old new : List (K × ℕ)) (changes : List (K × ℤ)) → AreCounts R greatest new → AreChanges R changes → patched R greatest old changes ≡ Ok new → changes ≡ difference R old new

-- the same of tallies with a head and a kind that a new head drops
pub record TalliesByDifference (greatest : Key → ℕ) (dropped : ℕ) : Type 0 where
  pub reaches : (old new : TallyRecord) → AreCounts key_cmp greatest old.entries → AreCounts key_cmp greatest new.entries
      → patched_tally Below TooGreat greatest dropped old (tally_difference dropped old new) ≡ Ok new
  pub alone : (old new : TallyRecord) (change : ChangeRecord) → AreCounts key_cmp greatest new.entries → AreChanges key_cmp change.entries
      → patched_tally Below TooGreat greatest dropped old change ≡ Ok new → change ≡ tally_difference dropped old new

-- What is noted of the bounds of machines, and of their groups.
use Rattle.std.specs.Prelude.{◌≡◌, ℕ, ◌^◌, ◌<◌, ◌≤◌, Bool, true, false, List, length, is_some}
use Rattle.std.proofs.Common.{get_or}
use Rattle.place_pass.specs.Bounds.{MarkRecord, mark_at, key_of}
use Rattle.place_pass.specs.PackedRanks.{never_rank, IsAbove}

-- the number of each machine is no greater than that of its bound, also where pairs up to this turn were not looked at there; and the greatest of all says that
-- there is none at any turn
pub record AreNoted (marks : List MarkRecord) (keys : List ℕ) (until : ℕ) : Type 0 where
  pub few : length marks ≤ 256
  pub long : length keys ≡ length marks
  pub above : (m turns : ℕ) → m < length marks → turns ≤ until → is_some (key_of (mark_at marks m) turns) ≡ true → IsAbove (mark_at marks m) turns m (get_or keys m 0)
  pub never : (m turns : ℕ) → m < length marks → get_or keys m 0 ≡ never_rank → turns < 2 ^ 64 → is_some (key_of (mark_at marks m) turns) ≡ false

-- unless a group may be noted, no mark notes any
pub record AreClearUnless (marks : List MarkRecord) (noted : Bool) : Type 0 where
  pub clear : noted ≡ false → (m g : ℕ) → m < length marks → get_or (mark_at marks m).groups g false ≡ false

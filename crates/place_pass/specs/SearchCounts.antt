-- How many machines a search looks at: what is unsettled, and when a placer is tight.
use Rattle.std.specs.Prelude.{◌≡◌, ℕ, zero, suc, ◌+◌, ◌<◌, Bool, true, false, cond, ◌&&◌, ◌⊎◌, List, length, is_some}
use Rattle.std.proofs.Common.{get_or}
use Rattle.fuxi_terms.specs.declared.Key.{Key}
use Rattle.fuxi_terms.specs.TallyKeys.{avoid_key}
use Rattle.place_pass.specs.Bounds.{MarkRecord, mark_at, key_of}
use Rattle.place_pass.specs.Placers.{PlacerRecord, is_open}

-- a machine is open, and by its mark a pair may be placeable there
abbrev pub is_unsettled_by : List Bool → MarkRecord → ℕ → ℕ → Bool
is_unsettled_by machines k turns m = get_or machines m false && is_some (key_of k turns)

abbrev pub is_unsettled : PlacerRecord → ℕ → Bool
is_unsettled p m = is_unsettled_by p.seen.opened (mark_at p.kept.marks m) p.seen.turns m

-- how many numbers below n pass a test
abbrev pub count_below : (ℕ → Bool) → ℕ → ℕ
count_below test zero = 0
count_below test (suc n) = count_below test n + cond (test n) 1 0

abbrev pub unsettled_machines : PlacerRecord → ℕ
unsettled_machines p = count_below (is_unsettled p) (length p.seen.cluster.machines)

-- no open machine that is settled is to be looked at again for a group that has reached its limit
pub record IsTight (p : PlacerRecord) : Type 0 where
  pub clear : (m g : ℕ) → is_open p.seen m ≡ true → is_unsettled p m ≡ false → get_or (mark_at p.kept.marks m).groups g false ≡ false

-- it is tight, and of its machines at most these are unsettled that were not
pub record StaysTight (before after : PlacerRecord) (more : ℕ → Type 0) : Type 0 where
  pub tight : IsTight after
  pub few : (m : ℕ) → is_unsettled after m ≡ true → (is_unsettled before m ≡ true) ⊎ more m

-- a unit of a job no longer avoids a machine that it avoided
pub record IsLifted (before after : ℕ → Key → ℕ) (a m : ℕ) : Type 0 where
  pub unit : ℕ
  pub was : 0 < before a (avoid_key unit m)
  pub gone : after a (avoid_key unit m) ≡ 0

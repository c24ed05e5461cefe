-- What is left of a writing that stops.
use Rattle.std.proofs.Common.{◌≡◌, ℕ, List, [], ◌∷◌, ◌++◌, Result, subst}
use Rattle.std.specs.List.{AllByRecursion}
use Rattle.fuxi_io.specs.Disks.{Moment, Told, Leaves, LeavesAlways}
use Rattle.spec_roles.specs.HardState.{HardEvent, hard_step}
use Rattle.hard_state.specs.HardFiles.{Kept, WritesStep, IsBeforeOrAfter}
use Rattle.schedule_replay.specs.Held.{Held, IsOpen}

-- what holds always holds at the end
pub always_now : (P : List ℕ → Type 0) (old new : Told) → LeavesAlways P old new → Leaves P new.now
always_now P old new all = go all.since all.reached all.each
  where
    go : (since : List Moment) → new.now ∷ new.before ≡ since ++ old.now ∷ old.before → AllByRecursion (Leaves P) since → Leaves P new.now
    go [] reached each = let same : old.now ≡ new.now = cc in subst (Leaves P) same all.first
    go (m ∷ ms) reached each = let same : m ≡ new.now = cc in subst (Leaves P) same each.0

-- whatever came of a writing from an open checkpoint
pub leaves_stopped : (E : Type 0) (h : Held) (epoch : ℕ) (event : HardEvent) (k after : Kept) (t new : Told) (result : Result (Unit {0}) E) → IsOpen h → k ≡ h.hard → t ≡ h.told
    → WritesStep (hard_step k.value epoch event) k after result t new → Leaves (IsBeforeOrAfter h.hard.value (hard_step h.hard.value epoch event)) new.now
leaves_stopped E h epoch event k after t new result open_before kept told writes =
    let from_there = subst (λ (p : Kept × Told). WritesStep (hard_step p.0.value epoch event) p.0 after result p.1 new) (λ i. (kept i, told i)) writes in
    always_now (IsBeforeOrAfter h.hard.value (hard_step h.hard.value epoch event)) h.told new (from_there open_before.rest).0

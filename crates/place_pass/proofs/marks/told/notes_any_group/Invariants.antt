use Rattle.std.proofs.Common.{◌≡◌, ℕ, ◌<◌, false, get_or}
use Rattle.place_pass.specs.Bounds.{mark_at}
use Rattle.place_pass.proofs.marks.told.notes_any_group.Given as goal

abbrev pub invariant-loop-number : goal.invariant-loop-number
invariant-loop-number l = (m g : ℕ) → m < l.number → get_or (mark_at l.marks m).groups g false ≡ false

use Rattle.std.proofs.Common.{◌≡◌, take}
use Rattle.std.specs.List.{list_any}
use Rattle.place_pass.proofs.marks.mark.Mark.notes_any.Given as goal

abbrev pub invariant-loop-group : goal.invariant-loop-group
invariant-loop-group l = l.noted ≡ list_any (λ noted. noted) (take l.group l.self.groups)
